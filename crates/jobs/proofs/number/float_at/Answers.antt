use mathlib.Core.Path.{◌∙◌, ap}
use lib.Ieee.{binary64, of_bits}
use Rattle.jobs.specs.Job.{float}
use Rattle.jobs.proofs.number.float_at.Goals as goal

pub returns : goal.returns
unfolding float
returns c = c.of_bits.ensures ∙ ap (of_bits binary64) c.number_at.ensures.0
