use mathlib.Core.Path.{◌≡◌}
use Prim.Native.Nat.{◌-◌, ◌/◌, ◌%◌, ◌+◌, ◌≤◌}
use lib.ListN.{length}
use Rattle.geom.specs.Outline.{points}
use Rattle.outlines.proofs.Blocks.{Known}
use Rattle.outlines.proofs.heights.block_heights.Given as goal

abbrev pub invariant-loop-k : goal.invariant-loop-k
invariant-loop-k l = (l.k % 8 ≡ 0) × (l.k ≤ length l.corners / 2 + 8) × (length l.t ≡ length l.initial.t) × Known l.k (points l.corners) l.t

abbrev pub decreases-loop-k : goal.decreases-loop-k
decreases-loop-k l = length l.corners / 2 - l.k
