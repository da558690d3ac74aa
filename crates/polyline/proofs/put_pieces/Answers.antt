-- `put_pieces` meets its contract: the pieces of the corners that are left are to be written from `at` on. Assumes nothing.
use native.Mathlib.Omega.{arith}
use mathlib.Core.Path.{◌∙◌}
use Rattle.seqs.specs.Front.{front_from}
use Rattle.seqs.specs.Wrote.{put_end}
use Rattle.geom.specs.Sewing.{flat}
use Rattle.polyline.specs.Line.{pieces_from}
use Rattle.polyline.specs.AlikeLaws.{squared}
use Rattle.polyline.proofs.LineSteps.{piece_room, piece_put}
use Rattle.polyline.proofs.put_pieces.Goals as goal

pub loop-q-init : goal.loop-q-init
loop-q-init c =
    let a = c.args in
    (rw c.into_iter-q-iterator.ensures.into_iter_gives (front_from a.out.now (flat (pieces_from a.from a.corners a.len)) a.k (omega (arith, c.requires))), c.pieces_of-two.ensures.0)

pub steps_of-n-requires : goal.steps_of-n-requires
steps_of-n-requires c = c.known-told.ensures c.args.len c.pieces_of-one.ensures.0 c.pieces_of-two.ensures.0 c.loop-q.invariant.1

pub put_piece-at-requires : goal.put_piece-at-requires
put_piece-at-requires c =
    let a = c.args in
    let l = c.loop-q in
    let n = c.steps_of-n.ensures ∙ squared l.p c.in-Some.q _ _ a.len c.minus-v.ensures c.dot-d.ensures in
    rw n (piece_room a.k a.from a.corners a.len l.p c.in-Some.q c.next.new.self (rw c.in-Some.ensures.steps at l.invariant.0) c.requires)

pub learnt-s-requires : goal.learnt-s-requires
learnt-s-requires c = c.loop-q.invariant.1

pub loop-q-preserved : goal.loop-q-preserved
loop-q-preserved c =
    let a = c.args in
    let l = c.loop-q in
    let n = c.steps_of-n.ensures ∙ squared l.p c.in-Some.q _ _ a.len c.minus-v.ensures c.dot-d.ensures in
    let e = rw n at c.put_piece-at.ensures.0 in
    (rw (c.put_piece-at.ensures.1, n) (piece_put a.k a.from a.corners a.len l.p c.in-Some.q c.next.new.self (rw c.in-Some.ensures.steps at l.invariant.0) c.requires _ e), c.learnt-s.ensures)

pub shape_of-out : goal.shape_of-out
shape_of-out c = c.loop-q.invariant.0.len

pub returns : goal.returns
unfolding pieces_from flat
returns c =
    let a = c.args in
    put_end (flat (pieces_from a.from a.corners a.len)) a.k (omega (arith, c.requires)) (rw c.in-None.ensures.steps.0 at c.loop-q.invariant.0)
