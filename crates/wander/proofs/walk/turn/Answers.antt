-- `turn` meets its contract. Assumes nothing.
use native.Mathlib.Omega.{arith}
use Rattle.geom.specs.Rings.{rings_of}
use Rattle.meander_rules.specs.Meander.{points_of, link_ok}
use Rattle.wander.specs.TurnSlices.{seed_sized, on_top, on_size, back_top, back_size, here_low, way_free, way_low, way_on, way_back, stepped_at}
use Rattle.wander.proofs.walk.turn.Goals as goal

pub pick-p-requires : goal.pick-p-requires
pick-p-requires c = let z = c.requires.0.sized in (here_low (points_of c.args.ground.grid) c.args.w.now c.args.s z c.requires.0.sound c.requires.1, z.few, omega (arith, z.room))

pub go_on-requires : goal.go_on-requires
go_on-requires c = let a = c.args in let r = c.requires.0 in let link = link_ok (rings_of a.ground.area.outline) a.ground.area.rule a.ground.grid in
    let f = way_free a.ground.grid link a.w.now a.s r.sized c.requires.1 c.pick-p.ensures.1 c.pick-p.ensures.0 c.in-Some.k c.in-Some.is in
    (seed_sized (points_of a.ground.grid) a.w.now a.s r.sized c.pick-p.result.seed, way_low a.ground.grid link a.w.now a.s r.sized c.requires.1 c.pick-p.ensures.1 c.pick-p.ensures.0 c.in-Some.k c.in-Some.is, on_top (points_of a.ground.grid) a.w.now a.s r.sized r.sound c.in-Some.k f, on_size (points_of a.ground.grid) a.w.now a.s r.sized r.sound c.in-Some.k f)

pub shape_of-w-in-Some : goal.shape_of-w-in-Some
shape_of-w-in-Some c = c.go_on.ensures.long

pub returns-in-Some : goal.returns-in-Some
returns-in-Some c = let a = c.args in let link = link_ok (rings_of a.ground.area.outline) a.ground.area.rule a.ground.grid in
    stepped_at (way_on a.ground.grid link a.w.now a.s c.requires.0.sized c.requires.1 c.pick-p.ensures.1 c.pick-p.ensures.0 c.in-Some.k c.in-Some.is) c.go_on.ensures

pub go_back-requires : goal.go_back-requires
go_back-requires c = let a = c.args in let r = c.requires.0 in
    (seed_sized (points_of a.ground.grid) a.w.now a.s r.sized c.pick-p.result.seed, back_top (points_of a.ground.grid) a.w.now a.s r.sized r.sound, c.requires.1, back_size (points_of a.ground.grid) a.w.now a.s r.sized r.sound)

pub shape_of-w-in-None : goal.shape_of-w-in-None
shape_of-w-in-None c = c.go_back.ensures.long

pub returns-in-None : goal.returns-in-None
returns-in-None c = let a = c.args in let link = link_ok (rings_of a.ground.area.outline) a.ground.area.rule a.ground.grid in
    stepped_at (way_back a.ground.grid link a.w.now a.s c.requires.0.sized c.requires.1 c.pick-p.ensures.1 c.pick-p.ensures.0 c.in-None.is) c.go_back.ensures
