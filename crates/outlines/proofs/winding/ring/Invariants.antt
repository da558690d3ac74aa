use mathlib.Core.Path.{◌≡◌}
use Prim.Native.Nat.{◌+◌, ◌-◌, ◌/◌, ◌≤◌, ◌<◌}
use lib.ListN.{length, drop}
use lib.IntN.{nat_abs, ◌+ℤ◌}
use Rattle.geom.specs.Outline.{points}
use Rattle.outlines.specs.Winding.{ring}
use Rattle.outlines.specs.Runs.{chain}
use Rattle.outlines.proofs.winding.ring.Given as goal

abbrev pub invariant-loop-k : goal.invariant-loop-k
invariant-loop-k l = (l.k < length l.l / 2) × (nat_abs l.w ≤ l.k + 1) × (l.w +ℤ chain l.p (drop l.k (points l.l)) ≡ ring l.p (points l.l))

abbrev pub decreases-loop-k : goal.decreases-loop-k
decreases-loop-k l = length l.l / 2 - l.k
