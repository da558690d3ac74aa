-- `points_of` meets its contract: what is known is of a side that isn't skipped. Assumes nothing.
use Rattle.polyline.specs.AlikeLaws.{not_skipped}
use borrow.Author.Rules.{rules}
use Rattle.styles.proofs.split.points_of.Goals as goal

pub returns-then-k-gt0 : goal.returns-then-k-gt0
returns-then-k-gt0 c = not_skipped c.args.d c.args.max c.args.k (search rules) (c.requires (search rules))
