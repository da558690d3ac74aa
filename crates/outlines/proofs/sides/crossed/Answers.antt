use mathlib.Core.Path.{sym, ◌∙◌}
use Prim.Native.Nat.{◌+◌, ◌≤◌}
use native.Mathlib.Omega.{arith}
use lib.ListN.{length}
use lib.IntN.{nat_abs, +ℤ_idl}
use mir.Syntax.{w64}
use mir.Val.{to_z}
use Rattle.outlines.specs.WindingLaws.{edge_small}
use Rattle.outlines.proofs.Loops.{sum}
use Rattle.outlines.proofs.Gathering.{sum_next, sum_end}
use borrow.Author.Rules.{rules}
use Rattle.outlines.proofs.sides.crossed.Goals as goal

pub loop-i-init : goal.loop-i-init
loop-i-init c = (search rules, search rules, +ℤ_idl _)

pub overflow_add-w : goal.overflow_add-w
overflow_add-w c =
    let k : nat_abs c.edge-w.result ≤ 1 = rw c.edge-w.ensures (edge_small _ _ _) in
    (sum c.loop-i.w-bits c.edge-w.result (length c.args.s.now) (omega arith) (search rules)).fits

pub loop-i-preserved : goal.loop-i-preserved
loop-i-preserved c =
    let k : nat_abs c.edge-w.result ≤ 1 = rw c.edge-w.ensures (edge_small _ _ _) in
    let t = sum c.loop-i.w-bits c.edge-w.result (nat_abs (to_z w64 c.loop-i.w-bits) + 1) (omega arith) (omega arith) in
    (omega arith, omega (arith, t.small), rw (t.is, c.edge-w.ensures, c.corner.ensures, c.corner-in-loop-i.ensures) (sym (sum_next c.args.p c.args.s.now (to_z w64 c.loop-i.w-bits) c.loop-i.i (omega arith)) ∙ c.loop-i.invariant.2))

pub returns : goal.returns
returns c = sym (sum_end c.args.p c.args.s.now (to_z w64 c.loop-i.w-bits) c.loop-i.i (omega arith)) ∙ c.loop-i.invariant.2
