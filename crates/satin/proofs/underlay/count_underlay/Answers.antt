use native.Mathlib.Omega.{arith}
use Rattle.satin.specs.Underlay.{underlay_count}
use Rattle.satin.specs.UnderlayLaws.{bit_one}
use Rattle.satin.proofs.underlay.count_underlay.Goals as goal

pub overflow_add-result : goal.overflow_add-result
overflow_add-result c = omega (arith, c.requires, c.once.ensures.1, c.once-2.ensures.1)

pub overflow_add-result-2 : goal.overflow_add-result-2
overflow_add-result-2 c = omega (arith, c.requires, c.once.ensures.1, c.once-2.ensures.1, c.once-3.ensures.1)

pub returns : goal.returns
unfolding underlay_count
returns c = rw (bit_one c.args.g, c.once.ensures.0, c.once-2.ensures.0, c.once-3.ensures.0)
