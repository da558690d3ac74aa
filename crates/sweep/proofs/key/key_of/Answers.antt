use Rattle.rules.specs.Fill.{cross_x}
use Rattle.sweep.proofs.key.key_of.Goals as goal

pub returns-in-X : goal.returns-in-X
unfolding cross_x
returns-in-X c = rw (c.edge-t.ensures, c.in-X.is)
