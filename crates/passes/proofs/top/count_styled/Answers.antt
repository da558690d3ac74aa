use Rattle.satinrules.specs.Column.{styled}
use Rattle.passes.proofs.top.count_styled.Goals as goal

pub returns-in-Plain : goal.returns-in-Plain
unfolding styled
returns-in-Plain c = rw c.in-Plain.is c.count_plain.ensures

pub returns-in-SStitch : goal.returns-in-SStitch
unfolding styled
returns-in-SStitch c = rw c.in-SStitch.is c.count_bent.ensures

pub returns-in-Zigzag : goal.returns-in-Zigzag
unfolding styled
returns-in-Zigzag c = rw c.in-Zigzag.is c.count_all.ensures
