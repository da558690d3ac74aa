use mathlib.Core.Path.{◌∙◌}
use lib.Ieee.{of_bits, of_int, round, neg}
use Rattle.limits.specs.Limits.{largest}
use Rattle.limits.specs.LimitsLaws.{number_within}
use Rattle.limits.proofs.good_number.Goals as goal

pub returns : goal.returns
unfolding largest of_bits of_int round neg
returns c = c.within.ensures ∙ number_within c.args.x
