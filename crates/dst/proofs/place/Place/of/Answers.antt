use Rattle.seqs.specs.Tests.{and_both}
use Rattle.limits.specs.Limits.{good_number, good_point}
use Rattle.dst.specs.Thread.{rounded_point}
use Rattle.dst.proofs.place.Place.of.Goals as goal

pub lifted-requires : goal.lifted-requires
unfolding good_point
lifted-requires c = (and_both (good_number c.args.p.x) (good_number c.args.p.y) c.requires).0

pub lifted-requires-2 : goal.lifted-requires-2
unfolding good_point
lifted-requires-2 c = (and_both (good_number c.args.p.x) (good_number c.args.p.y) c.requires).1

pub returns : goal.returns
unfolding rounded_point
returns c = rw (c.lifted.ensures.0, c.lifted-2.ensures.0)
