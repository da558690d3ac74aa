-- The invariant: what the rings to come make of the corners so far is what all come to.
use mathlib.Core.Path.{◌≡◌, sym, ◌∙◌}
use Prim.Native.Nat.{◌+◌, ◌-◌}
use native.Mathlib.Omega.{arith}
use lib.ListN.{drop, length-drop}
use Rattle.jobs.specs.JobLaws.{counted_short, counted_many, counted_next, counted_over, counted_end, behind_at}
use Rattle.jobs.proofs.frame.count_corners.Goals as goal

pub loop-init : goal.loop-init
loop-init c = let e : c.args.rings - 0 ≡ c.args.rings = omega arith in (rw e, omega arith, omega arith)

pub returns-then-s-at-lt2 : goal.returns-then-s-at-lt2
returns-then-s-at-lt2 c =
    let l = c.loop in
    let s = c.args.s.now in
    sym (counted_short l.n (drop l.at s) (c.args.rings - l.counter) (omega arith) (omega (arith, length-drop l.at s))) ∙ l.invariant.0

pub returns-then-s-at : goal.returns-then-s-at
returns-then-s-at c =
    let l = c.loop in
    let s = c.args.s.now in
    sym (counted_short l.n (drop l.at s) (c.args.rings - l.counter) (omega arith) (omega (arith, length-drop l.at s, c.count_at-c.ensures.0))) ∙ l.invariant.0

pub returns-then-n-c-gt-MOST_CORNERS : goal.returns-then-n-c-gt-MOST_CORNERS
returns-then-n-c-gt-MOST_CORNERS c =
    let l = c.loop in
    let s = c.args.s.now in
    let e = c.count_at-c.ensures.0 in
    sym (counted_many l.n (drop l.at s) (c.args.rings - l.counter) (omega arith) (omega (arith, length-drop l.at s, e)) (omega (arith, e))) ∙ l.invariant.0

pub loop-preserved : goal.loop-preserved
loop-preserved c =
    let l = c.loop in
    let s = c.args.s.now in
    let e = c.count_at-c.ensures.0 in
    let t = counted_next l.n (drop l.at s) (c.args.rings - l.counter) (omega arith) (omega (arith, length-drop l.at s, e)) (omega (arith, e)) in
    let k : c.args.rings - l.counter - 1 ≡ c.args.rings - (l.counter + 1) = omega arith in
    (rw (sym (behind_at s l.at _ e), e, sym k) (sym t ∙ l.invariant.0), omega arith, omega arith)

pub returns-then-at-s : goal.returns-then-at-s
returns-then-at-s c =
    let l = c.loop in
    let s = c.args.s.now in
    let z : (c.args.rings - l.counter) ≡ 0 = omega arith in
    sym (counted_over l.n (drop l.at s) (omega (arith, length-drop l.at s))) ∙ (rw z at l.invariant.0)

pub returns : goal.returns
returns c =
    let l = c.loop in
    let s = c.args.s.now in
    let z : (c.args.rings - l.counter) ≡ 0 = omega arith in
    sym (counted_end l.n (drop l.at s) (omega (arith, length-drop l.at s))) ∙ (rw z at l.invariant.0)
