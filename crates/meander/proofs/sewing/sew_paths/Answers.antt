-- `sew_paths` meets its contract. Assumes nothing.
use Rattle.geom.specs.Rings.{rings_of}
use Rattle.meander.specs.PathLaws.{rise_part, trails_are}
use Rattle.meander.proofs.sewing.sew_paths.Goals as goal

pub invariant_of-paths : goal.invariant_of-paths
invariant_of-paths c = record { rise = rise_part c.args.ground.grid c.args.w.now c.args.t c.requires }

pub returns : goal.returns
returns c = let a = c.args in rw (trails_are a.ground.grid a.w.now a.t c.requires (rings_of a.ground.area.outline) a.ground.area.rule a.len) at c.lines_along.ensures
