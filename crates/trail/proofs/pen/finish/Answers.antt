-- `finish` meets its contract. Assumes nothing.
use Rattle.trail.specs.Trail.{finish}
use Rattle.trail.proofs.pen.finish.Goals as goal

pub returns : goal.returns
unfolding finish
returns c = (rw c.end-lines.ensures.1, c.end-lines.ensures.0)
