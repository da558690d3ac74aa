use mathlib.Core.Path.{◌∙◌}
use native.Mathlib.Omega.{arith}
use lib.Ieee.{nan, of_bits}
use borrow.Author.Tests.{eq-eqb, ne_eqb}
use Rattle.geom.specs.Point.{point}
use Rattle.geom.specs.OutlineLaws.{points_at}
use Rattle.satinrules.specs.Arc.{at}
use Rattle.arc.proofs.at.Goals as goal

pub returns-then-n-eq1 : goal.returns-then-n-eq1
unfolding at
returns-then-n-eq1 c = rw (eq-eqb _ _ c.if-n-eq1.true, points_at c.args.pts.now 0 (point nan nan) (omega (arith, c.requires.twice, c.if-n-eq1.true))) c.corner.ensures

pub returns : goal.returns
unfolding at of_bits
returns c = rw (ne_eqb _ _ c.if-n-eq1.false) (c.on_side.ensures ∙ rw (c.side_of.ensures.0, c.clamp-t.ensures))
