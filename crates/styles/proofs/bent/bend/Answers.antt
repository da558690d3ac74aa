use mathlib.Core.Path.{◌∙◌}
use lib.Ieee.{of_bits, neg, round}
use borrow.Author.Tests.{eq-eqb, ne_eqb}
use Rattle.numbers.specs.Num.{literal}
use Rattle.satinrules.specs.Column.{bend}
use Rattle.styles.proofs.bent.bend.Goals as goal

pub towards-requires : goal.towards-requires
towards-requires c = c.len-l.ensures

pub returns-then-k-eq0 : goal.returns-then-k-eq0
unfolding bend literal round of_bits neg
returns-then-k-eq0 c = rw (eq-eqb _ _ c.if-k-eq0.true) (c.times.ensures ∙ rw (c.times-side.ensures, c.perp.ensures, c.towards.ensures, c.smaller.ensures, c.len-l.ensures, c.minus-d.ensures))

pub returns : goal.returns
unfolding bend literal round of_bits neg
returns c = rw (ne_eqb _ _ c.if-k-eq0.false) (c.times-2.ensures ∙ rw (c.times-side.ensures, c.perp.ensures, c.towards.ensures, c.smaller.ensures, c.len-l.ensures, c.minus-d.ensures))
