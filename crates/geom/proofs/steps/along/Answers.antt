use mathlib.Core.Path.{◌∙◌}
use Rattle.geom.specs.Steps.{along}
use Rattle.geom.proofs.steps.along.Goals as goal

pub returns : goal.returns
unfolding along
returns c = c.lerp.ensures ∙ rw (c.of_u64.ensures, c.of_u64-2.ensures)
