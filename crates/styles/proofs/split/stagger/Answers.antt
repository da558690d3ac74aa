use lib.Ieee.{of_bits, neg, round}
use borrow.Author.Tests.{eq-eqb, ne_eqb}
use Rattle.numbers.specs.Num.{literal}
use Rattle.satinrules.specs.Column.{stagger}
use Rattle.styles.proofs.split.stagger.Goals as goal

pub returns-then-k-eq0 : goal.returns-then-k-eq0
unfolding stagger literal round of_bits neg
returns-then-k-eq0 c = rw (eq-eqb _ _ c.if-k-eq0.true)

pub returns-then-k-eq1 : goal.returns-then-k-eq1
unfolding stagger literal round of_bits neg
returns-then-k-eq1 c = rw (ne_eqb _ _ c.if-k-eq0.false, eq-eqb _ _ c.if-k-eq1.true)

pub returns-else-k-eq1 : goal.returns-else-k-eq1
unfolding stagger literal round of_bits neg
returns-else-k-eq1 c = rw (ne_eqb _ _ c.if-k-eq0.false, ne_eqb _ _ c.if-k-eq1.false)
