use mathlib.Core.Path.{◌∙◌}
use Rattle.rules.specs.Fill.{link_inside}
use Rattle.sections.proofs.link_inside.Goals as goal

pub returns : goal.returns
unfolding link_inside
returns c = c.has.ensures ∙ rw (c.rotate-q.ensures, c.along.ensures)
