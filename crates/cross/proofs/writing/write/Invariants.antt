-- `write` meets its contract: the rows from r on are still to be written. Assumes nothing.
use Prim.Native.Nat.{◌*◌}
use Rattle.seqs.specs.Front.{Front}
use Rattle.geom.specs.Outline.{rings}
use Rattle.geom.specs.Sewing.{flat}
use Rattle.rules.specs.Calls.{sewn_points, sewn_ends}
use Rattle.patterns_rules.specs.Patterns.{stitched}
use Rattle.cross.specs.RowLaws.{rows_in}
use Rattle.cross.proofs.writing.write.Given as goal

abbrev pub invariant-loop-r : goal.invariant-loop-r
invariant-loop-r l = Front l.initial.out l.out (2 * l.done.points) (flat (sewn_points (rows_in (rings l.badge.outline.corners.now l.badge.outline.ends.now) l.badge.rule l.badge.grid l.r))) (flat (sewn_points (stitched (rings l.badge.outline.corners.now l.badge.outline.ends.now) l.badge.rule l.badge.grid))) × Front l.initial.stops l.stops l.done.lines (sewn_ends l.done.points (rows_in (rings l.badge.outline.corners.now l.badge.outline.ends.now) l.badge.rule l.badge.grid l.r)) (sewn_ends 0 (stitched (rings l.badge.outline.corners.now l.badge.outline.ends.now) l.badge.rule l.badge.grid))
