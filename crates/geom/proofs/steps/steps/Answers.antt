use mathlib.Core.Path.{◌∙◌}
use lib.Ieee.{of_bits}
use Rattle.geom.specs.Steps.{steps}
use Rattle.geom.proofs.steps.steps.Goals as goal

pub returns : goal.returns
unfolding steps of_bits
returns c = c.to_u64.ensures ∙ rw (c.larger.ensures, c.ceil.ensures)
