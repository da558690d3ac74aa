use mathlib.Core.Bool.{and-false}
use borrow.Author.Tests.{eq-eqb, ne_eqb, lt-leb, le-leb}
use Rattle.limits.specs.Limits.{good_outline}
use Rattle.limits.proofs.good_outline.Goals as goal

pub returns-then-n-ne0 : goal.returns-then-n-ne0
unfolding good_outline
returns-then-n-ne0 c = rw (ne_eqb _ _ c.if-n-ne0.true)

pub returns-then-ends-gt-MOST_RINGS : goal.returns-then-ends-gt-MOST_RINGS
unfolding good_outline
returns-then-ends-gt-MOST_RINGS c = rw (eq-eqb _ _ c.if-n-ne0.false, lt-leb _ 255 c.if-ends-gt-MOST_RINGS.true)

pub returns-then-n-gt-MOST_CORNERS : goal.returns-then-n-gt-MOST_CORNERS
unfolding good_outline
returns-then-n-gt-MOST_CORNERS c = rw (lt-leb _ 1024 c.if-n-gt-MOST_CORNERS.true) (rw (and-false _))

pub returns : goal.returns
unfolding good_outline
returns c = rw (eq-eqb _ _ c.if-n-ne0.false, le-leb _ _ c.if-ends-gt-MOST_RINGS.false, le-leb _ _ c.if-n-gt-MOST_CORNERS.false) c.ends_rise.ensures
