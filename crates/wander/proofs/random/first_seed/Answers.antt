-- `first_seed` meets its contract. Assumes nothing.
use Rattle.meander_rules.specs.Meander.{first_seed}
use Rattle.wander.proofs.random.first_seed.Goals as goal

pub returns : goal.returns
unfolding first_seed
returns c = rw c.max.ensures
