-- `over_path` meets its contract: the line begins at the path's first point, and ends. Assumes nothing.
use native.Mathlib.Omega.{arith}
use lib.Ieee.{of_bits, of_int, round}
use Rattle.geom.specs.Rings.{rings_of}
use Rattle.trail.specs.Along.{begin_inside, path_none, path_sewed}
use borrow.Author.Rules.{rules}
use Rattle.trail.proofs.path.over_path.Goals as goal

pub returns-then-path-lt2 : goal.returns-then-path-lt2
returns-then-path-lt2 c =
    let a = c.args in
    path_none (rings_of a.ground.area.outline) a.ground.area.rule a.ground.grid a.len a.path.now (search rules) a.s a.out.now a.stops.now (omega (arith, c.well_formed)) (omega (arith, c.well_formed))

pub over_steps-gone-requires : goal.over_steps-gone-requires
over_steps-gone-requires c =
    let a = c.args in
    (search rules, begin_inside (rings_of a.ground.area.outline) a.ground.area.rule c.place-p.result a.s c.begin-begun.ensures)

pub returns : goal.returns
unfolding of_bits of_int round
returns c =
    let a = c.args in
    path_sewed (rings_of a.ground.area.outline) a.ground.area.rule a.ground.grid a.len a.path.now (omega (arith, c.if-path-lt2.false)) c.place-p.result a.s c.place-p.ensures c.larger-step.ensures c.begin-begun.ensures (omega (arith, c.well_formed)) (omega (arith, c.well_formed)) (omega (arith, c.well_formed)) (omega (arith, c.well_formed)) c.over_steps-gone.ensures c.finish.ensures.0 c.finish.ensures.1
