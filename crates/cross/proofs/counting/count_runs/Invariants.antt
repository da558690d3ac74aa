-- `count_runs` meets its contract: the runs of the cells from i on are still to be counted. Assumes nothing.
use mathlib.Core.Path.{◌≡◌}
use Prim.Native.Nat.{◌+◌, ◌-◌, ◌*◌, ◌≤◌}
use lib.ListN.{length}
use Rattle.geom.specs.Outline.{rings}
use Rattle.rules.specs.Calls.{sewn_points}
use Rattle.patterns_rules.specs.Patterns.{row_lines}
use Rattle.cross.specs.Cells.{lines_in}
use Rattle.cross.proofs.counting.count_runs.Given as goal

abbrev pub invariant-loop-run : goal.invariant-loop-run
invariant-loop-run l = (l.i ≤ l.row.badge.grid.columns) × (l.s ≤ l.i) × (l.at ≤ 4 * l.i) × (l.s + length (lines_in (rings l.row.badge.outline.corners.now l.row.badge.outline.ends.now) l.row.badge.rule l.row.badge.grid l.row.y l.i) ≡ length (row_lines (rings l.row.badge.outline.corners.now l.row.badge.outline.ends.now) l.row.badge.rule l.row.badge.grid l.row.y)) × (l.at + length (sewn_points (lines_in (rings l.row.badge.outline.corners.now l.row.badge.outline.ends.now) l.row.badge.rule l.row.badge.grid l.row.y l.i)) ≡ length (sewn_points (row_lines (rings l.row.badge.outline.corners.now l.row.badge.outline.ends.now) l.row.badge.rule l.row.badge.grid l.row.y)))

abbrev pub decreases-loop-run : goal.decreases-loop-run
decreases-loop-run l = l.row.badge.grid.columns - l.i
