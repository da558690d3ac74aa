use Rattle.seqs.specs.Insert.{sorting_end}
use Rattle.sweep.specs.Swept.{by, ordered}
use borrow.Author.Rules.{rules}
use Rattle.sweep.proofs.key.sort.Goals as goal

pub returns : goal.returns
unfolding ordered
returns c = sorting_end (by c.args.key c.args.table.now) c.loop-n.invariant (search rules)
