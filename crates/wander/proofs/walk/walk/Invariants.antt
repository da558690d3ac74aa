-- `walk` meets its contract: what is left of the walk is left of it. Assumes nothing.
use Rattle.geom.specs.Rings.{rings_of}
use Rattle.meander_rules.specs.Meander.{points_of, link_ok}
use Rattle.meander_rules.specs.TurnLaws.{left}
use Rattle.wander.specs.Walking.{walk_in}
use Rattle.wander.specs.TurnSlices.{Walked}
use Rattle.wander.proofs.walk.walk.Given as goal

abbrev pub invariant-loop-s : goal.invariant-loop-s
invariant-loop-s l = Walked l.ground.grid (link_ok (rings_of l.ground.area.outline) l.ground.area.rule l.ground.grid) l.initial.w l.w l.initial.s l.s

abbrev pub decreases-loop-s : goal.decreases-loop-s
decreases-loop-s l = left l.ground.grid (link_ok (rings_of l.ground.area.outline) l.ground.area.rule l.ground.grid) (walk_in (points_of l.ground.grid) l.w l.s)
