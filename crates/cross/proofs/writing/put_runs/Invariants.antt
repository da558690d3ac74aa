-- `put_runs` meets its contract: the runs of the cells from i on are still to be written. Assumes nothing.
use mathlib.Core.List.{◌++◌}
use Prim.Native.Nat.{◌-◌, ◌*◌, ◌^◌, ◌≤◌, ◌<◌}
use lib.ListN.{length, take}
use Rattle.seqs.specs.Front.{Front}
use Rattle.geom.specs.Outline.{rings}
use Rattle.geom.specs.Sewing.{flat}
use Rattle.rules.specs.Calls.{sewn_points, sewn_ends}
use Rattle.patterns_rules.specs.Patterns.{row_lines}
use Rattle.cross.specs.Cells.{lines_in}
use Rattle.cross.proofs.writing.put_runs.Given as goal

abbrev pub invariant-loop-run : goal.invariant-loop-run
invariant-loop-run l = (l.i ≤ l.row.badge.grid.columns) × Front l.initial.out l.out (2 * l.at) (flat (sewn_points (lines_in (rings l.row.badge.outline.corners.now l.row.badge.outline.ends.now) l.row.badge.rule l.row.badge.grid l.row.y l.i))) (take (2 * l.initial.at) l.initial.out ++ flat (sewn_points (row_lines (rings l.row.badge.outline.corners.now l.row.badge.outline.ends.now) l.row.badge.rule l.row.badge.grid l.row.y))) × Front l.initial.stops l.stops l.s (sewn_ends l.at (lines_in (rings l.row.badge.outline.corners.now l.row.badge.outline.ends.now) l.row.badge.rule l.row.badge.grid l.row.y l.i)) (take l.initial.s l.initial.stops ++ sewn_ends l.initial.at (row_lines (rings l.row.badge.outline.corners.now l.row.badge.outline.ends.now) l.row.badge.rule l.row.badge.grid l.row.y)) × (length l.initial.out < 2 ^ 64) × (length l.initial.stops < 2 ^ 64)

abbrev pub decreases-loop-run : goal.decreases-loop-run
decreases-loop-run l = l.row.badge.grid.columns - l.i
