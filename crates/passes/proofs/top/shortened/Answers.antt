use Rattle.satinrules.specs.Column.{pulled}
use Rattle.passes.specs.Threads.{moved_in}
use Rattle.passes.proofs.top.shortened.Goals as goal

pub returns-else-far : goal.returns-else-far
unfolding moved_in pulled
returns-else-far c = rw (c.if-far.false.0, c.if-far.false.1)
