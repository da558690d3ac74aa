use mathlib.Core.Path.{sym, ◌∙◌}
use Rattle.limits.specs.Limits.{good_point}
use Rattle.limits.proofs.good_point.Goals as goal

pub returns-then-good_number : goal.returns-then-good_number
unfolding good_point
returns-then-good_number c = rw (sym c.good_number.ensures ∙ c.if-good_number.true) c.good_number-then-good_number.ensures

pub returns : goal.returns
unfolding good_point
returns c = rw (sym c.good_number.ensures ∙ c.if-good_number.false)
