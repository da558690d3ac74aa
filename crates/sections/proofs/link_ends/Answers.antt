use mathlib.Core.Path.{refl}
use borrow.Author.Tests.{eq-eqb, ne_eqb}
use lib.Ieee.{of_bits, neg, round}
use Rattle.numbers.specs.Num.{literal}
use Rattle.rules.specs.Fill.{link_ends}
use Rattle.sections.proofs.link_ends.Goals as goal

pub returns-then-o-eq0 : goal.returns-then-o-eq0
unfolding link_ends of_bits neg literal round
returns-then-o-eq0 c = rw (c.smaller-eps.ensures, c.smaller.ensures, eq-eqb _ 0 c.if-o-eq0.true) (refl, refl)

pub returns : goal.returns
unfolding link_ends of_bits neg literal round
returns c = rw (c.smaller-eps.ensures, c.smaller.ensures, ne_eqb _ 0 c.if-o-eq0.false) (refl, refl)
