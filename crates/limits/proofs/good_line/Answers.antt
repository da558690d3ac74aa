use borrow.Author.Tests.{eq-eqb, ne_eqb}
use Rattle.limits.specs.Limits.{good_line}
use Rattle.limits.proofs.good_line.Goals as goal

pub returns-then-n-ne0 : goal.returns-then-n-ne0
unfolding good_line
returns-then-n-ne0 c = rw (ne_eqb _ _ c.if-n-ne0.true)

pub returns : goal.returns
unfolding good_line
returns c = rw (eq-eqb _ _ c.if-n-ne0.false)
