use borrow.Author.Tests.{lt-ltb, le-ltb}
use Rattle.geom.specs.OutlineLaws.{points_length}
use Rattle.satinrules.specs.Pairs.{few}
use Rattle.satinrules.specs.Calls.{rails_of}
use Rattle.satin.proofs.rails.few_corners.Goals as goal

pub returns-then-a-lt2 : goal.returns-then-a-lt2
unfolding few rails_of
returns-then-a-lt2 c = rw (points_length c.args.a.now, lt-ltb _ 2 c.if-a-lt2.true)

pub returns-else-a-lt2 : goal.returns-else-a-lt2
unfolding few rails_of
returns-else-a-lt2 c = rw (points_length c.args.a.now, points_length c.args.b.now, le-ltb _ _ c.if-a-lt2.false)
