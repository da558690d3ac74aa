use Rattle.std.proofs.Math.Path.{refl}
use Rattle.std.proofs.Common.{sym, ◌∙◌}
use Prim.Native.Nat.{◌+◌, ◌≤◌}
use native.Mathlib.Omega.{arith}
use lib.ListN.{length}
use lib.IntN.{nat_abs, +ℤ_idl, +ℤ_idr, +ℤ_assoc}
use mir.Syntax.{w64}
use mir.Val.{to_z}
use Rattle.geom.specs.Outline.{points}
use Rattle.geom.specs.OutlineLaws.{points_length}
use Rattle.outlines.specs.Winding.{edge, edges}
use Rattle.outlines.specs.Runs.{chain}
use Rattle.outlines.specs.WindingLaws.{edge_small}
use Rattle.outlines.proofs.Loops.{sum}
use borrow.Author.Rules.{rules}
use Rattle.outlines.proofs.winding.chain.Goals as goal

pub returns-in_default : goal.returns-in_default
unfolding chain
returns-in_default c = rw (sym c.of-corners.ensures ∙ c.in_default.ensures.steps.0) refl

pub loop-b-init : goal.loop-b-init
unfolding chain
loop-b-init c =
    let e = c.into_iter-b-iterator.ensures.into_iter_gives in
    rw (sym c.of-corners.ensures ∙ c.in-Some.ensures.steps, e) (search rules, +ℤ_idl _)

pub overflow_add-w : goal.overflow_add-w
overflow_add-w c =
    let k : nat_abs c.edge-w.result ≤ 1 = rw c.edge-w.ensures (edge_small _ _ _) in
    let m = rw c.in-Some-b.ensures.steps at c.loop-b.invariant.0 in
    (sum c.loop-b.w-bits c.edge-w.result (length (points c.args.l.now)) (omega arith) (omega (arith, points_length c.args.l.now))).fits

pub loop-b-preserved : goal.loop-b-preserved
unfolding edges
loop-b-preserved c =
    let l = c.loop-b in
    let k : nat_abs c.edge-w.result ≤ 1 = rw c.edge-w.ensures (edge_small _ _ _) in
    let m = rw c.in-Some-b.ensures.steps at l.invariant.0 in
    let s = sum l.w-bits c.edge-w.result (nat_abs (to_z w64 l.w-bits) + 1) (omega arith) (omega (arith, points_length c.args.l.now)) in
    (omega (arith, s.small), rw (s.is, c.edge-w.ensures) (+ℤ_assoc (to_z w64 l.w-bits) (edge l.a c.in-Some-b.b c.args.p) (edges c.args.p c.in-Some-b.b c.next-in-loop-b.new.self) ∙ rw c.in-Some-b.ensures.steps at l.invariant.1))

pub returns : goal.returns
unfolding edges
returns c = sym (+ℤ_idr (to_z w64 c.loop-b.w-bits)) ∙ rw c.in-None.ensures.steps.0 at c.loop-b.invariant.1
