-- `count` meets its contract: the rows from r on are still to be counted. Assumes nothing.
use mathlib.Core.Path.{◌≡◌}
use Prim.Native.Nat.{◌+◌, ◌*◌, ◌≤◌}
use lib.ListN.{length}
use Rattle.geom.specs.Outline.{rings}
use Rattle.rules.specs.Calls.{sewn_points}
use Rattle.patterns_rules.specs.Patterns.{stitched}
use Rattle.cross.specs.RowLaws.{rows_in}
use Rattle.cross.proofs.counting.count.Given as goal

abbrev pub invariant-loop-r : goal.invariant-loop-r
invariant-loop-r l = (l.s ≤ 4096 * l.r) × (l.at ≤ 16384 * l.r) × (l.s + length (rows_in (rings l.badge.outline.corners.now l.badge.outline.ends.now) l.badge.rule l.badge.grid l.r) ≡ length (stitched (rings l.badge.outline.corners.now l.badge.outline.ends.now) l.badge.rule l.badge.grid)) × (l.at + length (sewn_points (rows_in (rings l.badge.outline.corners.now l.badge.outline.ends.now) l.badge.rule l.badge.grid l.r)) ≡ length (sewn_points (stitched (rings l.badge.outline.corners.now l.badge.outline.ends.now) l.badge.rule l.badge.grid)))
