-- `count` meets its contract. Assumes nothing.
use Rattle.geom.specs.Rings.{rings_of}
use Rattle.geom.specs.Outline.{cut}
use Rattle.trail.specs.Trail.{trails}
use Rattle.trail.specs.Whole.{counts}
use Rattle.trail.proofs.count.Goals as goal

pub returns : goal.returns
unfolding trails
returns c =
    let a = c.args in
    counts (rings_of a.ground.area.outline) a.ground.area.rule a.ground.grid a.len (cut 0 a.paths.ends.now a.paths.points.now) c.idle.result c.idle.ensures.0 c.idle.ensures.1 c.over_paths-pen.ensures
