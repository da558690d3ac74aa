use lib.Ieee.{of_bits, round}
use Rattle.numbers.specs.Num.{literal}
use Rattle.geom.specs.Point.{tiny}
use Rattle.satinrules.specs.Arc.{fraction}
use Rattle.arc.proofs.fraction.Goals as goal

pub returns-then-seg : goal.returns-then-seg
unfolding fraction tiny literal round of_bits
returns-then-seg c = rw c.if-seg.true

pub returns-else-seg : goal.returns-else-seg
unfolding fraction tiny literal round of_bits
returns-else-seg c = rw c.if-seg.false
