-- `next_seed` meets its contract: the same operations. Assumes nothing.
use mathlib.Core.Path.{refl}
use Rattle.meander_rules.specs.Meander.{next_seed}
use Rattle.wander.proofs.random.next_seed.Goals as goal

pub returns : goal.returns
unfolding next_seed
returns c = refl
