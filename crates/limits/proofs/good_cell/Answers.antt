use lib.Ieee.{of_bits, of_int, round}
use Rattle.limits.specs.Limits.{good_cell}
use Rattle.limits.proofs.good_cell.Goals as goal

pub returns : goal.returns
unfolding good_cell of_bits of_int round
returns c = c.within.ensures
