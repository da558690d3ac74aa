-- `points_over` meets its contract. Assumes nothing.
use mathlib.Core.Path.{ap, ◌∙◌}
use lib.Ieee.{to_unsigned}
use Rattle.meander.specs.StoppedLaws.{over_few, over_many}
use borrow.Author.Rules.{rules}
use Rattle.meander.proofs.grid.points_over.Goals as goal

pub returns-then-c-lt400000 : goal.returns-then-c-lt400000
returns-then-c-lt400000 c = over_few c.args.lo c.args.hi c.args.spacing (c.to_u64-c.ensures ∙ ap (to_unsigned 64) c.ceil.ensures) (search rules)

pub returns : goal.returns
returns c = over_many c.args.lo c.args.hi c.args.spacing (c.to_u64-c.ensures ∙ ap (to_unsigned 64) c.ceil.ensures) (search rules)
