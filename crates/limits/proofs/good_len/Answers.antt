use lib.Ieee.{of_bits, of_int, round}
use Rattle.limits.specs.Limits.{good_len}
use Rattle.limits.proofs.good_len.Goals as goal

pub returns : goal.returns
unfolding good_len of_bits of_int round
returns c = c.within.ensures
