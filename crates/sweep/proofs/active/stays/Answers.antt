use Rattle.rules.specs.Fill.{starts, lives}
use Rattle.sweep.specs.Swept.{stays}
use Rattle.sweep.proofs.active.stays.Goals as goal

pub returns-then-upward : goal.returns-then-upward
unfolding stays starts
returns-then-upward c = rw (c.edge-t.ensures, c.if-upward.true)

pub returns-else-upward : goal.returns-else-upward
unfolding stays lives
returns-else-upward c = rw (c.edge-t.ensures, c.if-upward.false)
