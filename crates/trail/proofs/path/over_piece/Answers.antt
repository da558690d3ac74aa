-- `over_piece` meets its contract: the ends of the steps from i on are to come, and then the corner. Assumes nothing.
use mathlib.Core.Path.{sym, ◌∙◌}
use Rattle.geom.specs.Rings.{rings_of}
use Rattle.polyline.specs.Line.{piece}
use Rattle.trail.specs.Trail.{on_to}
use Rattle.trail.specs.Parts.{going_start, going_at}
use Rattle.trail.specs.Along.{on_inside, step_on, step_last, piece_is, piece_none}
use borrow.Author.Rules.{rules}
use Rattle.trail.proofs.path.over_piece.Goals as goal

pub returns-then-n-eq0 : goal.returns-then-n-eq0
returns-then-n-eq0 c =
    let a = c.args in
    (piece_none (rings_of a.area.outline) a.area.rule a.a a.b a.len c.piece_steps-n.ensures c.if-n-eq0.true a.s a.out.now a.stops.now (search rules) (search rules), c.requires)

pub loop-i-init : goal.loop-i-init
loop-i-init c =
    let a = c.args in
    let one = on_to (rings_of a.area.outline) a.area.rule in
    (going_at one (sym (piece_is a.a a.b a.len c.piece_steps-n.ensures (search rules))) (going_start one a.s a.out.now a.stops.now (piece a.a a.b a.len) (search rules) (search rules) (search rules) (search rules)), c.requires)

pub on_to-pen-requires : goal.on_to-pen-requires
on_to-pen-requires c = c.loop-i.invariant.1

pub loop-i-preserved : goal.loop-i-preserved
loop-i-preserved c =
    let a = c.args in
    let l = c.loop-i in
    let r = rings_of a.area.outline in
    (step_on r a.area.rule a.a a.b c.piece_steps-n.result l.i l.invariant.0 (search rules) c.along.ensures c.on_to-pen.ensures, on_inside r a.area.rule c.along.result l.pen c.on_to-pen.ensures.pen)

pub on_to-requires : goal.on_to-requires
on_to-requires c = c.loop-i.invariant.1

pub shape_of-out : goal.shape_of-out
shape_of-out c = c.on_to.ensures.points.size ∙ c.loop-i.invariant.0.sewed.points.size

pub shape_of-stops : goal.shape_of-stops
shape_of-stops c = c.on_to.ensures.stops.size ∙ c.loop-i.invariant.0.sewed.stops.size

pub returns : goal.returns
returns c =
    let a = c.args in
    let l = c.loop-i in
    let r = rings_of a.area.outline in
    (step_last r a.area.rule a.a a.b c.piece_steps-n.result l.i l.invariant.0 (search rules) c.on_to.ensures, on_inside r a.area.rule a.b l.pen c.on_to.ensures.pen)
