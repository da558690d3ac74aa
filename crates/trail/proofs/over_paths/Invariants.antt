-- `over_paths` meets its contract: the paths from break k on are to come, the first from a on. Assumes nothing.
use mathlib.Core.Path.{◌≡◌}
use mathlib.Core.Bool.{true}
use lib.ListN.{length, drop}
use Rattle.geom.specs.Rings.{rings_of}
use Rattle.geom.specs.Outline.{rising, cut}
use Rattle.trail.specs.Trail.{along_path}
use Rattle.trail.specs.Parts.{Going}
use Rattle.trail.proofs.over_paths.Given as goal

abbrev pub invariant-loop-e : goal.invariant-loop-e
invariant-loop-e l = (rising l.a (drop l.e-index l.paths.ends.now) (length l.paths.points.now) ≡ true) × Going (along_path (rings_of l.ground.area.outline) l.ground.area.rule l.ground.grid l.len) l.initial.pen l.pen l.initial.out l.out l.initial.stops l.stops (cut l.a (drop l.e-index l.paths.ends.now) l.paths.points.now) (cut 0 l.paths.ends.now l.paths.points.now)
