-- `place` meets its contract. Assumes nothing.
use Rattle.meander_rules.specs.Meander.{place}
use Rattle.meander_rules.proofs.Lattice.place.Goals as goal

pub returns : goal.returns
unfolding place
returns c = rw (c.of_u64.ensures, c.of_u64-2.ensures)
