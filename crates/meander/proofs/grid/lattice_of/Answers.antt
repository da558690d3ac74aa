-- `lattice_of` meets its contract. Assumes nothing.
use mathlib.Core.Path.{sym, ◌∙◌}
use Rattle.meander.specs.StoppedLaws.{lattice_some, lattice_none}
use Rattle.meander.proofs.grid.lattice_of.Goals as goal

pub returns-then-is_finite : goal.returns-then-is_finite
returns-then-is_finite c = rw (← c.bounds-b.ensures) (lattice_some c.bounds-b.result c.args.spacing (sym c.is_finite.ensures ∙ c.if-is_finite.true) c.points_over-columns.ensures c.points_over-rows.ensures)

pub returns : goal.returns
returns c = rw (← c.bounds-b.ensures) (lattice_none c.bounds-b.result c.args.spacing (sym c.is_finite.ensures ∙ c.if-is_finite.false))
