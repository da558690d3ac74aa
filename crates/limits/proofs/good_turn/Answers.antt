use mathlib.Core.Path.{sym, ◌∙◌}
use lib.Ieee.{of_bits, round}
use Rattle.numbers.specs.Num.{literal}
use Rattle.limits.specs.Limits.{good_turn}
use Rattle.limits.proofs.good_turn.Goals as goal

pub returns-then-is_finite-2 : goal.returns-then-is_finite-2
unfolding good_turn literal round of_bits
returns-then-is_finite-2 c = rw (sym c.is_finite.ensures ∙ c.if-is_finite.true, sym c.is_finite-then-is_finite.ensures ∙ c.if-is_finite-2.true) c.within.ensures

pub returns-else-is_finite-2 : goal.returns-else-is_finite-2
unfolding good_turn
returns-else-is_finite-2 c = rw (sym c.is_finite.ensures ∙ c.if-is_finite.true, sym c.is_finite-then-is_finite.ensures ∙ c.if-is_finite-2.false)

pub returns-else-is_finite : goal.returns-else-is_finite
unfolding good_turn
returns-else-is_finite c = rw (sym c.is_finite.ensures ∙ c.if-is_finite.false)
