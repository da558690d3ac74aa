-- `first` meets its contract: the cells from i up to j are all inside, or all not. Assumes nothing.
use mathlib.Core.Path.{◌≡◌}
use mathlib.Core.Bool.{not}
use Prim.Native.Nat.{ℕ, ◌≤◌, ◌<◌}
use Rattle.geom.specs.Rings.{rings_of}
use Rattle.patterns_rules.specs.Patterns.{cell_inside}
use Rattle.cross.proofs.cells.Row.first.Given as goal

abbrev pub invariant-loop-j : goal.invariant-loop-j
invariant-loop-j l = (t : ℕ) → l.i ≤ t → t < l.j → cell_inside (rings_of l.self.badge.outline) l.self.badge.rule l.self.badge.grid l.self.y t ≡ not l.inside
