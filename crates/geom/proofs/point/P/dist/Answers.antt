use Rattle.geom.specs.Point.{dist}
use Rattle.geom.proofs.point.P.dist.Goals as goal

pub returns : goal.returns
unfolding dist
returns c = cc
