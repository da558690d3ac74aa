use Rattle.geom.specs.Point.{len}
use Rattle.geom.proofs.point.P.len.Goals as goal

pub returns : goal.returns
unfolding len
returns c = cc
