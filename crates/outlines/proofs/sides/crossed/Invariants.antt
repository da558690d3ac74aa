use mathlib.Core.Path.{◌≡◌}
use Prim.Native.Nat.{◌-◌, ◌*◌, ◌≤◌}
use lib.ListN.{length, drop}
use lib.IntN.{nat_abs, ◌+ℤ◌}
use Rattle.outlines.specs.Sides.{side_sum}
use Rattle.outlines.proofs.sides.crossed.Given as goal

abbrev pub invariant-loop-i : goal.invariant-loop-i
invariant-loop-i l = (l.i ≤ length l.s) × (4 * nat_abs l.w ≤ l.i) × (l.w +ℤ side_sum l.p (drop l.i l.s) ≡ side_sum l.p l.s)

abbrev pub decreases-loop-i : goal.decreases-loop-i
decreases-loop-i l = length l.s - l.i
