-- The points on the way, and the end. Assumes nothing.
use mathlib.Core.Path.{◌≡◌}
use mathlib.Core.List.{◌++◌}
use Prim.Native.Nat.{◌+◌, ◌*◌}
use lib.ListN.{take}
use Rattle.seqs.specs.Front.{Front}
use Rattle.geom.specs.Sewing.{flat}
use Rattle.sewing.specs.Sewing.{back, gap}
use Rattle.sewing.proofs.Loops.{gap_from}
use Rattle.sewing.proofs.stitch.put_gap.Given as goal

abbrev pub invariant-loop-i : goal.invariant-loop-i
invariant-loop-i l = (l.at ≡ l.k + 2 * l.i) × Front l.initial.out l.out l.at (flat (back l.c l.s (gap_from l.p l.q l.n l.i))) (take l.k l.initial.out ++ flat (back l.c l.s (gap l.p l.q l.n)))
