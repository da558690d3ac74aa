-- `over_steps` meets its contract: the points ahead of c are to come, where the path's point before k stands at a. Assumes nothing.
use mathlib.Core.Path.{◌≡◌}
use Prim.Native.Nat.{◌+◌}
use lib.ListN.{get_or}
use Rattle.geom.specs.Rings.{rings_of}
use Rattle.outlines.specs.Inside.{point_inside}
use Rattle.meander_rules.specs.Meander.{place}
use Rattle.trail.specs.Trail.{on_to, ahead}
use Rattle.trail.specs.Parts.{Going}
use Rattle.trail.proofs.path.over_steps.Given as goal

abbrev pub invariant-loop-k : goal.invariant-loop-k
invariant-loop-k l = Going (on_to (rings_of l.ground.area.outline) l.ground.area.rule) l.initial.pen l.pen l.initial.out l.out l.initial.stops l.stops (ahead l.ground.grid l.len l.path l.c l.a (l.k-index + 1)) (ahead l.ground.grid l.len l.path (place l.ground.grid (get_or l.path 0 0)) (place l.ground.grid (get_or l.path 0 0)) 1) × (l.pen.inside ≡ point_inside (rings_of l.ground.area.outline) l.ground.area.rule l.pen.at)
