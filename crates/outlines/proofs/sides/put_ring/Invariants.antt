use Prim.Native.Nat.{◌+◌, ◌*◌, ◌≤◌}
use lib.ListN.{length}
use Rattle.seqs.specs.Wrote.{Run}
use Rattle.geom.specs.Outline.{points}
use Rattle.outlines.specs.Sides.{chain_sides, ring_sides}
use Rattle.outlines.proofs.sides.put_ring.Given as goal

abbrev pub invariant-loop-b : goal.invariant-loop-b
invariant-loop-b l = (l.at + 4 * length l.b-iterator ≤ l.k + 2 * length l.l) × Run l.initial.out l.out l.k l.at (chain_sides l.y l.a l.b-iterator) (ring_sides l.y (points l.l))
