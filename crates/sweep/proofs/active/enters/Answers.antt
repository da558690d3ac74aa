use Rattle.rules.specs.Fill.{starts, lives}
use Rattle.sweep.specs.Swept.{enters}
use Rattle.sweep.proofs.active.enters.Goals as goal

pub returns-then-upward : goal.returns-then-upward
unfolding enters lives
returns-then-upward c = rw (c.edge-t.ensures, c.if-upward.true)

pub returns-else-upward : goal.returns-else-upward
unfolding enters starts
returns-else-upward c = rw (c.edge-t.ensures, c.if-upward.false)
