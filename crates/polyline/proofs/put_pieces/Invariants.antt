-- `put_pieces` meets its contract: the pieces of the corners that are left are to be written from `at` on. Assumes nothing.
use mathlib.Core.List.{◌++◌}
use lib.ListN.{take}
use Rattle.seqs.specs.Front.{Front}
use Rattle.geom.specs.Sewing.{flat}
use Rattle.polyline.specs.Line.{pieces_from}
use Rattle.polyline.specs.Cuts.{Told}
use Rattle.polyline.proofs.put_pieces.Given as goal

abbrev pub invariant-loop-q : goal.invariant-loop-q
invariant-loop-q l = Front l.initial.out l.out l.at (flat (pieces_from l.p l.q-iterator l.len)) (take l.k l.initial.out ++ flat (pieces_from l.fn.from l.fn.corners l.len)) × Told l.len l.s
