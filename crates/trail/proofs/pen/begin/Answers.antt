-- `begin` meets its contract. Assumes nothing.
use Rattle.trail.specs.Trail.{begin}
use Rattle.trail.proofs.pen.begin.Goals as goal

pub returns : goal.returns
unfolding begin
returns c = rw c.has.ensures
