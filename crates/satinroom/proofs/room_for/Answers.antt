use native.Mathlib.Omega.{arith}
use borrow.Author.Tests.{le-leb, lt-leb}
use Rattle.limits.specs.Limits.{most_pairs}
use Rattle.satinroom.specs.Room.{room_for}
use Rattle.satinroom.proofs.room_for.Goals as goal

pub returns-then-n-gt-MOST_PAIRS : goal.returns-then-n-gt-MOST_PAIRS
unfolding room_for
returns-then-n-gt-MOST_PAIRS c = rw (lt-leb _ most_pairs c.if-n-gt-MOST_PAIRS.true)

pub need-requires : goal.need-requires
need-requires c = omega (arith, c.if-n-gt-MOST_PAIRS.false)

pub returns : goal.returns
unfolding room_for
returns c = rw (c.need.ensures, le-leb _ most_pairs c.if-n-gt-MOST_PAIRS.false)
