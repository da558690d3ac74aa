use Rattle.satinrules.specs.Arc.{clamp}
use Rattle.arc.proofs.clamp.Goals as goal

pub returns-then-s-lo : goal.returns-then-s-lo
unfolding clamp
returns-then-s-lo c = rw c.if-s-lo.true

pub returns-then-s-hi : goal.returns-then-s-hi
unfolding clamp
returns-then-s-hi c = rw (c.if-s-lo.false, c.if-s-hi.true)

pub returns-else-s-hi : goal.returns-else-s-hi
unfolding clamp
returns-else-s-hi c = rw (c.if-s-lo.false, c.if-s-hi.false)
