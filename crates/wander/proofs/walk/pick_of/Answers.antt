-- `pick_of` meets its contract. Assumes nothing.
use Rattle.wander.proofs.walk.pick_of.Goals as goal

pub first_open-requires : goal.first_open-requires
first_open-requires c = c.requires

pub returns : goal.returns
returns c = (rw c.shuffle-x.ensures.0 at c.first_open.ensures, c.shuffle-x.ensures.1)
