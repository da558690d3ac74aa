use Rattle.satinrules.specs.Calls.{top_steps}
use Rattle.column.proofs.sized.top_sized.Goals as goal

pub sized_if-requires : goal.sized_if-requires
sized_if-requires c = c.requires

pub returns : goal.returns
unfolding top_steps
returns c = rw c.spaced.ensures at c.sized_if.ensures
