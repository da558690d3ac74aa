-- `count_passes` meets its contract: the points so far and those of the passes from counter on come to the answer. Assumes nothing.
use mathlib.Core.Path.{◌≡◌, sym, ap, ◌∙◌}
use Prim.Native.Nat.{◌+◌, ◌-◌, ◌*◌}
use native.Mathlib.Omega.{arith}
use native.Mathlib.Nat.{mul-zero}
use Rattle.seqs.specs.Slices.{capped}
use Rattle.seqs.specs.Capped.{capped_in, capped_small, capped_on, capped_still}
use Rattle.stroke.proofs.PassSteps.{passes_left, passes_done}
use borrow.Author.Rules.{rules}
use Rattle.stroke.proofs.passes.count_passes.Goals as goal

pub returns-then-n-eq0 : goal.returns-then-n-eq0
returns-then-n-eq0 c =
    let a = c.args in
    let z : a.n - 1 ≡ 0 = omega (arith, c.if-n-eq0.true) in
    sym (rw (c.if-n-eq0.true, mul-zero) (capped_in a.room 0 (omega arith)))

pub loop-preserved : goal.loop-preserved
loop-preserved c =
    let a = c.args in
    let l = c.loop in
    let s = a.n - 1 in
    (rw c.add_within-c.ensures (capped_small a.room (l.c + s)), rw c.add_within-c.ensures (capped_on a.room (l.c + s) ((a.passes - (l.counter + 1)) * s) ∙ ap (capped a.room) (omega (arith, passes_left l.counter a.passes s (search rules))) ∙ l.invariant.1))

pub returns : goal.returns
returns c =
    let a = c.args in
    let l = c.loop in
    sym (capped_still a.room l.c l.invariant.0) ∙ ap (capped a.room) (omega (arith, passes_done l.counter a.passes (a.n - 1) (search rules))) ∙ l.invariant.1
