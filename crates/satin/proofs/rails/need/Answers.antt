use Rattle.geom.specs.OutlineLaws.{points_length}
use Rattle.satinrules.specs.Calls.{rails_of, need}
use Rattle.satin.proofs.rails.need.Goals as goal

pub returns : goal.returns
unfolding need rails_of
returns c = rw (points_length c.args.a.now, points_length c.args.b.now, points_length c.args.sync.now)
