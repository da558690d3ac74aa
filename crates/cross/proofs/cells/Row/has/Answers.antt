use lib.Ieee.{of_bits}
use Rattle.patterns_rules.specs.Patterns.{cell_inside}
use Rattle.cross.proofs.cells.Row.has.Goals as goal

pub point_inside_at-requires : goal.point_inside_at-requires
unfolding of_bits
point_inside_at-requires c = c.args.self.across

pub returns : goal.returns
unfolding cell_inside of_bits
returns c = rw c.x_at.ensures at c.point_inside_at.ensures
