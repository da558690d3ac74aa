use mathlib.Core.Path.{◌∙◌}
use Rattle.satinrules.specs.Column.{part_end}
use Rattle.styles.proofs.split.part_end.Goals as goal

pub returns : goal.returns
unfolding part_end
returns c = c.lerp.ensures ∙ rw (c.of_u64.ensures, c.of_u64-2.ensures)
