use lib.Ieee.{of_bits, of_int, round, neg}
use Rattle.limits.specs.Limits.{good_inset}
use Rattle.limits.proofs.good_inset.Goals as goal

pub returns : goal.returns
unfolding good_inset of_bits of_int round neg
returns c = c.within.ensures
