-- `plain_bounds` meets its contract: the corners that are left are still to widen bounds that are alike. Assumes nothing.
use mathlib.Core.Path.{◌≡◌}
use Rattle.seqs.specs.Lists.{fold}
use Rattle.geom.specs.Outline.{points}
use Rattle.patterns_rules.specs.declared.Bounds.{Bounds}
use Rattle.patterns_rules.specs.Patterns.{widen}
use Rattle.cross.specs.Cells.{bounds_of, Alike}
use Rattle.cross.proofs.grid.plain_bounds.Given as goal

abbrev pub invariant-loop-q : goal.invariant-loop-q
invariant-loop-q l = (b : Bounds) × Alike (record { left = l.left; top = l.top; right = l.right; bottom = l.bottom }) b × (fold widen b l.q-iterator ≡ bounds_of (points l.corners))
