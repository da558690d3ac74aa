-- A row's points, written. Assumes nothing.
use mathlib.Core.Path.{◌≡◌}
use mathlib.Core.List.{◌++◌}
use Prim.Native.Nat.{◌+◌, ◌-◌}
use lib.ListN.{take}
use Rattle.seqs.specs.Front.{Front}
use Rattle.geom.specs.Sewing.{flat}
use Rattle.sewing.specs.Sewing.{sew_to, back, targets, row_sewn}
use Rattle.sewing.proofs.stitch.put_row.Given as goal

abbrev pub invariant-loop-r : goal.invariant-loop-r
invariant-loop-r l = (l.g ≡ l.t.field.g) × (l.end ≡ l.l.row.n + 2) × Front l.initial.out l.out l.at (flat (back l.g.cosine l.g.sine (sew_to l.g.len l.from (targets l.g.len l.l.row l.r (l.end - l.r))))) (take l.k l.initial.out ++ flat (row_sewn l.g l.fn.pen l.l.row))
