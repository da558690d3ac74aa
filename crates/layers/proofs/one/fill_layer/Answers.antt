-- The gate, the pieces laid, and what was found. Assumes nothing.
use Rattle.std.proofs.Common.{rules, refl}
use Rattle.std.proofs.lemmas.Result.{err_from_is_err_and}
use Rattle.finding.specs.Stages.{Planned}
use Rattle.finding.specs.FindLaws.{passed}
use Rattle.layers.specs.LayerLaws.{layable, own_few, own_handed, own_told}
use Rattle.layers.specs.Outcomes.{layer_refused, layer_done}
use Rattle.layers.proofs.one.fill_layer.Goals as goal

pub returns-in_err-t : goal.returns-in_err-t
unfolding Planned
returns-in_err-t c =
    let a = c.args in
    let p = err_from_is_err_and c.from_residual.result c.from_residual.ensures.1 in
    layer_refused a.corners.now a.ends.now a.rule a.g a.stagger a.upward a.points.now a.floats.now a.stops.now a.wholes.now c.requires _ p.1 (rw p.2 c.in_err-t.ensures)

pub lay-n-requires : goal.lay-n-requires
unfolding Planned
lay-n-requires c = let t = c.in_ok-t.t in let p = c.in_ok-t.ensures in
    let a = c.args in
    let s = rw (← p.corners_are, ← p.ends_are, ← p.set) at c.requires in
    layable t.outline.corners.now t.outline.ends.now t (passed t) s a.places.now refl

pub found_of-found-requires : goal.found_of-found-requires
unfolding Planned
found_of-found-requires c = let t = c.in_ok-t.t in let p = c.in_ok-t.ensures in
    let a = c.args in
    let s = rw (← p.corners_are, ← p.ends_are, ← p.set) at c.requires in
    own_few t.outline.corners.now t.outline.ends.now t (passed t) s _ c.lay-n.ensures

pub sew_found-requires : goal.sew_found-requires
unfolding Planned
sew_found-requires c = let t = c.in_ok-t.t in let p = c.in_ok-t.ensures in
    let a = c.args in
    let s = rw (← p.corners_are, ← p.ends_are, ← p.set) at c.requires in
    own_handed t.outline.corners.now t.outline.ends.now t (passed t) s _ c.lay-n.ensures (search rules) (search rules) c.found_of-found.ensures

pub returns : goal.returns
unfolding Planned
returns c = let t = c.in_ok-t.t in let p = c.in_ok-t.ensures in
    let a = c.args in
    let s = rw (← p.corners_are, ← p.ends_are, ← p.set) at c.requires in
    let n = own_told t.outline.corners.now t.outline.ends.now t (passed t) s _ c.lay-n.ensures (search rules) (search rules) c.found_of-found.ensures _ in
    rw (p.corners_are, p.ends_are, p.ruled, p.set, p.staggered, p.up) at (layer_done t.outline.corners.now t.outline.ends.now t.rule t.g t.stagger t.upward a.points.now a.floats.now a.stops.now a.wholes.now s c.lay-n.new.floats c.lay-n.new.wholes c.found_of-found.result t.accepted (search rules) (search rules) n c.sew_found.ensures)
