use mathlib.Core.Path.{◌≡◌}
use Prim.Native.Nat.{◌+◌, ◌≤◌}
use lib.ListN.{length}
use lib.IntN.{nat_abs, ◌+ℤ◌}
use Rattle.geom.specs.Outline.{points}
use Rattle.outlines.specs.Winding.{edges}
use Rattle.outlines.specs.Runs.{chain}
use Rattle.outlines.proofs.winding.chain.Given as goal

abbrev pub invariant-loop-b : goal.invariant-loop-b
invariant-loop-b l = (nat_abs l.w + length l.b-iterator ≤ length (points l.l)) × (l.w +ℤ edges l.p l.a l.b-iterator ≡ chain l.p (points l.l))
