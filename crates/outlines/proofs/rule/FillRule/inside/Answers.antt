use mir.Syntax.{w64}
use mir.ValLaws.{to_z-of_z}
use Rattle.outlines.specs.Inside.{inside}
use Rattle.outlines.proofs.Parity.{zero_bits, rem_bits}
use Rattle.outlines.proofs.rule.FillRule.inside.Goals as goal

pub returns-in-NonZero : goal.returns-in-NonZero
unfolding inside
returns-in-NonZero c = rw c.in-NonZero.is (zero_bits c.args.winding c.ranges.winding)

pub returns-in-EvenOdd : goal.returns-in-EvenOdd
unfolding inside
returns-in-EvenOdd c = rw (c.in-EvenOdd.is, to_z-of_z w64 c.args.winding c.ranges.winding) (rem_bits c.args.winding)
