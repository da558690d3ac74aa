-- `link_ok` meets its contract. Assumes nothing.
use lib.Ieee.{of_bits, of_int, round}
use Rattle.meander_rules.specs.Meander.{link_ok}
use Rattle.wander.proofs.grid.link_ok.Goals as goal

pub returns : goal.returns
unfolding link_ok of_bits of_int round
returns c = rw (c.place.ensures, c.place-2.ensures) at c.has_way.ensures
