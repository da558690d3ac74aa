use Rattle.satinrules.specs.Column.{widened}
use Rattle.passes.proofs.top.widened.Goals as goal

pub returns : goal.returns
unfolding widened
returns c = rw (c.plus-p.ensures, c.minus-r.ensures, c.times.ensures, c.times-2.ensures, c.norm-dir.ensures, c.minus.ensures)
