use Rattle.geom.specs.Point.{lerp}
use Rattle.geom.proofs.point.P.lerp.Goals as goal

pub returns : goal.returns
unfolding lerp
returns c = cc
