use lib.Ieee.{of_bits, of_int, round}
use Rattle.limits.specs.Limits.{good_split}
use Rattle.limits.proofs.good_split.Goals as goal

pub returns : goal.returns
unfolding good_split of_bits of_int round
returns c = c.within.ensures
