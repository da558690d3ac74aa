use lib.Ieee.{of_bits, of_int, round}
use Rattle.limits.specs.Limits.{good_step}
use Rattle.limits.proofs.good_step.Goals as goal

pub returns : goal.returns
unfolding good_step of_bits of_int round
returns c = c.within.ensures
