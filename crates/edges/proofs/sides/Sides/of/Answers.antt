use Rattle.geom.specs.Outline.{points, rings}
use Rattle.rules.specs.Fill.{sides, turned}
use Rattle.edges.proofs.sides.Sides.of.Goals as goal

pub returns : goal.returns
unfolding rings points sides turned
returns c = rw c.of.ensures
