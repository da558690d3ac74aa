use Prim.Native.Nat.{◌*◌}
use lib.ListN.{drop}
use Rattle.seqs.specs.Front.{Front}
use Rattle.geom.specs.Outline.{points}
use Rattle.geom.specs.Sewing.{flat}
use Rattle.salvage.specs.Ring.{left}
use Rattle.salvage.proofs.writing.put_corners.Given as goal

abbrev pub invariant-loop-i : goal.invariant-loop-i
invariant-loop-i l = Front l.initial.out l.out l.k (flat (left (drop l.i l.marks) (points (drop (2 * l.i) l.corners)))) (flat (left l.marks (points l.corners)))
