use Rattle.satinrules.specs.Column.{styled}
use Rattle.passes.proofs.top.put_styled.Goals as goal

pub put_plain-requires : goal.put_plain-requires
unfolding styled
put_plain-requires c = rw c.in-Plain.is at c.requires

pub put_bent-requires : goal.put_bent-requires
unfolding styled
put_bent-requires c = rw c.in-SStitch.is at c.requires

pub put_all-requires : goal.put_all-requires
unfolding styled
put_all-requires c = rw c.in-Zigzag.is at c.requires

pub returns-in-Plain : goal.returns-in-Plain
unfolding styled
returns-in-Plain c = rw c.in-Plain.is c.put_plain.ensures

pub returns-in-SStitch : goal.returns-in-SStitch
unfolding styled
returns-in-SStitch c = rw c.in-SStitch.is c.put_bent.ensures

pub returns-in-Zigzag : goal.returns-in-Zigzag
unfolding styled
returns-in-Zigzag c = rw c.in-Zigzag.is c.put_all.ensures
