use lib.Ieee.{of_bits, of_int, round}
use Rattle.limits.specs.Limits.{good_spacing}
use Rattle.limits.proofs.good_spacing.Goals as goal

pub returns : goal.returns
unfolding good_spacing of_bits of_int round
returns c = c.within.ensures
