-- The invariant: the rings to come are well framed, and their ends are what is left to write.
use mathlib.Core.Path.{◌≡◌, sym, ap, ◌∙◌}
use Prim.Native.Nat.{ℕ, ◌+◌, ◌-◌}
use native.Mathlib.Omega.{arith}
use lib.ListN.{drop, length-drop}
use Rattle.seqs.specs.Front.{front_start, front_at, front_push, front_end}
use Rattle.jobs.specs.Job.{ends_from}
use Rattle.jobs.specs.JobLaws.{ring, behind_at, ends_turn, ends_none}
use Rattle.jobs.proofs.rings.write_ends.Goals as goal

pub loop-i-init : goal.loop-i-init
loop-i-init c = let e : c.args.rings - 0 ≡ c.args.rings = omega arith in ((c.requires.0.corners, rw e c.requires.0.is), rw e (front_start _ _), c.requires.0.long)

pub count_at-c-requires : goal.count_at-c-requires
count_at-c-requires c =
    let l = c.loop-i in
    let r = ring (c.args.rings - c.loop-i.i) c.loop-i.n (drop c.loop-i.at c.args.s.now) c.loop-i.invariant.0.0 (omega arith) c.loop-i.invariant.0.1 in
    omega (arith, r.whole, length-drop l.at c.args.s.now)

pub overflow_add-n : goal.overflow_add-n
overflow_add-n c = omega (arith, c.count_at-c.ensures.1, (ring (c.args.rings - c.loop-i.i) c.loop-i.n (drop c.loop-i.at c.args.s.now) c.loop-i.invariant.0.0 (omega arith) c.loop-i.invariant.0.1).few, c.count_at-c.ensures.0)

pub overflow_mul-at : goal.overflow_mul-at
overflow_mul-at c = omega (arith, c.count_at-c.ensures.1, (ring (c.args.rings - c.loop-i.i) c.loop-i.n (drop c.loop-i.at c.args.s.now) c.loop-i.invariant.0.0 (omega arith) c.loop-i.invariant.0.1).few, c.count_at-c.ensures.0)

pub overflow_add-at : goal.overflow_add-at
overflow_add-at c = omega (arith, c.count_at-c.ensures.1, (ring (c.args.rings - c.loop-i.i) c.loop-i.n (drop c.loop-i.at c.args.s.now) c.loop-i.invariant.0.0 (omega arith) c.loop-i.invariant.0.1).few, c.count_at-c.ensures.0)

pub overflow_add-at-in-loop-i : goal.overflow_add-at-in-loop-i
overflow_add-at-in-loop-i c =
    let l = c.loop-i in
    let r = ring (c.args.rings - c.loop-i.i) c.loop-i.n (drop c.loop-i.at c.args.s.now) c.loop-i.invariant.0.0 (omega arith) c.loop-i.invariant.0.1 in
    omega (arith, r.whole, length-drop l.at c.args.s.now, c.count_at-c.ensures.0)

pub offset_bounds-ends-i : goal.offset_bounds-ends-i
offset_bounds-ends-i c = omega (arith, c.loop-i.invariant.1.len)

pub bounds-ends-i : goal.bounds-ends-i
bounds-ends-i c = omega (arith, c.loop-i.invariant.1.len)

pub loop-i-preserved : goal.loop-i-preserved
loop-i-preserved c =
    let l = c.loop-i in
    let s = c.args.s.now in
    let e = c.count_at-c.ensures.0 in
    let k : c.args.rings - l.i - 1 ≡ c.args.rings - (l.i + 1) = omega arith in
    let b = behind_at s l.at _ e in
    let r = ring (c.args.rings - c.loop-i.i) c.loop-i.n (drop c.loop-i.at c.args.s.now) c.loop-i.invariant.0.0 (omega arith) c.loop-i.invariant.0.1 in
    let f = front_at (ends_turn (c.args.rings - l.i) l.n (drop l.at s) (omega arith)) l.invariant.1 in
    ((l.invariant.0.0, rw (sym b, e, sym k) r.rest), rw (sym b, e, sym k) (front_push f (omega (arith, l.invariant.1.len))), omega (arith, r.whole, length-drop l.at s, e))

pub shape_of-ends : goal.shape_of-ends
shape_of-ends c = c.loop-i.invariant.1.len

pub returns : goal.returns
returns c =
    let l = c.loop-i in
    let z : c.args.rings - l.i ≡ 0 = omega arith in
    front_end (front_at (ap (λ (k : ℕ). ends_from k l.n (drop l.at c.args.s.now)) z ∙ ends_none _ _) l.invariant.1)
