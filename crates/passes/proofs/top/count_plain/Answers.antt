use Rattle.satinrules.specs.Column.{split_by}
use Rattle.passes.proofs.top.count_plain.Goals as goal

pub returns-in-None : goal.returns-in-None
unfolding split_by
returns-in-None c = rw c.in-None.is c.count_all.ensures

pub returns-in-Some : goal.returns-in-Some
unfolding split_by
returns-in-Some c = rw c.in-Some.is c.count_split.ensures
