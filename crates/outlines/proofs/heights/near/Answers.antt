use lib.Dec.{lit≤}
use lib.Ieee.{of_bits, neg}
use Rattle.numbers.specs.Value.{Within}
use Rattle.numbers.specs.Laws as laws
use Rattle.outlines.proofs.heights.near.Goals as goal

pub returns-then-x : goal.returns-then-x
unfolding of_bits neg
returns-then-x c = λ h. laws.within_between 20 _ c.args.x _ (laws.holds c.if-x.true) (laws.holds h) (unfold Within in lit≤ tt) (unfold Within in lit≤ tt)
