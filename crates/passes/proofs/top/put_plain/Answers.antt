use Rattle.satinrules.specs.Column.{split_by}
use Rattle.passes.proofs.top.put_plain.Goals as goal

pub put_all-requires : goal.put_all-requires
unfolding split_by
put_all-requires c = rw c.in-None.is at c.requires

pub put_split-requires : goal.put_split-requires
unfolding split_by
put_split-requires c = rw c.in-Some.is at c.requires

pub returns-in-None : goal.returns-in-None
unfolding split_by
returns-in-None c = rw c.in-None.is c.put_all.ensures

pub returns-in-Some : goal.returns-in-Some
unfolding split_by
returns-in-Some c = rw c.in-Some.is c.put_split.ensures
