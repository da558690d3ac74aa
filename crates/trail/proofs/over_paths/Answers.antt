-- `over_paths` meets its contract: the paths from break k on are to come, the first from a on. Assumes nothing.
use mathlib.Core.Path.{refl}
use native.Mathlib.Omega.{arith}
use lib.ListN.{length}
use Rattle.geom.specs.Rings.{rings_of}
use Rattle.geom.specs.Outline.{cut}
use Rattle.geom.specs.OutlineLaws.{rising_turn}
use Rattle.trail.specs.Trail.{along_path}
use Rattle.trail.specs.Parts.{going_start}
use Rattle.trail.specs.Along.{path_on, path_last}
use borrow.Author.Rules.{rules}
use Rattle.trail.proofs.over_paths.Goals as goal

pub loop-e-init : goal.loop-e-init
loop-e-init c =
    let a = c.args in
    (a.paths.rise, going_start (along_path (rings_of a.ground.area.outline) a.ground.area.rule a.ground.grid a.len) a.s a.out.now a.stops.now (cut 0 a.paths.ends.now a.paths.points.now) (omega (arith, c.well_formed)) (omega (arith, c.well_formed)) (omega (arith, c.well_formed)) (omega (arith, c.well_formed)))

pub offset_bounds-paths-a : goal.offset_bounds-paths-a
offset_bounds-paths-a c =
    let a = c.args in
    let l = c.loop-e in
    let t = rising_turn l.a a.paths.ends.now l.e-index (length a.paths.points.now) l.invariant.0 c.loop-e-test.true in
    omega (arith, t.from, t.to, c.well_formed)

pub slice_bounds-over_path-count : goal.slice_bounds-over_path-count
slice_bounds-over_path-count c =
    let a = c.args in
    let l = c.loop-e in
    let t = rising_turn l.a a.paths.ends.now l.e-index (length a.paths.points.now) l.invariant.0 c.loop-e-test.true in
    omega (arith, t.from, t.to)

pub slice_bounds-over_path-start : goal.slice_bounds-over_path-start
slice_bounds-over_path-start c =
    let a = c.args in
    let l = c.loop-e in
    let t = rising_turn l.a a.paths.ends.now l.e-index (length a.paths.points.now) l.invariant.0 c.loop-e-test.true in
    omega (arith, t.from, t.to)

pub slice_bounds-over_path-end : goal.slice_bounds-over_path-end
slice_bounds-over_path-end c =
    let a = c.args in
    let l = c.loop-e in
    let t = rising_turn l.a a.paths.ends.now l.e-index (length a.paths.points.now) l.invariant.0 c.loop-e-test.true in
    omega (arith, t.from, t.to)

pub loop-e-preserved : goal.loop-e-preserved
loop-e-preserved c =
    let a = c.args in
    let l = c.loop-e in
    let t = rising_turn l.a a.paths.ends.now l.e-index (length a.paths.points.now) l.invariant.0 c.loop-e-test.true in
    (t.rise, path_on (rings_of a.ground.area.outline) a.ground.area.rule a.ground.grid a.len a.paths.points.now a.paths.ends.now l.a l.e-index l.invariant.1 c.loop-e-test.true refl c.over_path-pen.ensures)

pub shape_of-out : goal.shape_of-out
shape_of-out c = c.loop-e.invariant.1.sewed.points.size

pub shape_of-stops : goal.shape_of-stops
shape_of-stops c = c.loop-e.invariant.1.sewed.stops.size

pub returns : goal.returns
returns c =
    let a = c.args in
    let l = c.loop-e in
    path_last (rings_of a.ground.area.outline) a.ground.area.rule a.ground.grid a.len a.paths.points.now a.paths.ends.now l.a l.e-index l.invariant.1 (search rules)
