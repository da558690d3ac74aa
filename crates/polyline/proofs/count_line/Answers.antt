-- `count_line` meets its contract: the points so far and those of the corners that are left are all. Assumes nothing.
use mathlib.Core.Path.{◌≡◌, sym, ◌∙◌}
use native.Mathlib.Omega.{arith}
use lib.ListN.{length}
use Rattle.seqs.specs.Capped.{capped_in, capped_over}
use Rattle.geom.specs.Outline.{points}
use Rattle.polyline.specs.Line.{resample_keep_corners}
use Rattle.polyline.specs.AlikeLaws.{squared}
use Rattle.polyline.proofs.LineSteps.{line_none, line_count, piece_count, pieces_none}
use Rattle.polyline.proofs.count_line.Goals as goal

pub returns-in_default : goal.returns-in_default
returns-in_default c = rw (line_none c.args.len (sym c.of-corners.ensures ∙ c.in_default.ensures.steps.0)) (sym (capped_in c.args.room 0 (omega arith)))

pub returns-then-room-eq0 : goal.returns-then-room-eq0
returns-then-room-eq0 c =
    let a = c.args in
    let n = line_count a.len (sym c.of-corners.ensures ∙ c.in-Some.ensures.steps) in
    omega (arith, c.if-room-eq0.true, capped_over a.room (length (resample_keep_corners (points a.line.now) a.len)) (omega (arith, c.if-room-eq0.true, n)))

pub loop-q-init : goal.loop-q-init
loop-q-init c =
    let n = line_count c.args.len (sym c.of-corners.ensures ∙ c.in-Some.ensures.steps) in
    (omega arith, rw c.into_iter-q-iterator.ensures.into_iter_gives (sym n), c.pieces_of-two.ensures.0)

pub steps_of-n-requires : goal.steps_of-n-requires
steps_of-n-requires c = c.known-k.ensures c.args.len c.pieces_of-one.ensures.0 c.pieces_of-two.ensures.0 c.loop-q.invariant.2

pub returns-then-n-room : goal.returns-then-n-room
returns-then-n-room c =
    let a = c.args in
    let l = c.loop-q in
    let q = c.in-Some-q.q in
    let s = c.steps_of-n.ensures ∙ squared l.p q _ _ a.len c.minus-v.ensures c.dot-d.ensures in
    let e = piece_count l.p q c.next-in-loop-q.new.self a.len in
    let i = rw c.in-Some-q.ensures.steps at l.invariant.1 in
    sym (capped_over a.room _ (omega (arith, e, s, i, c.if-n-room.true)))

pub learnt-s-requires : goal.learnt-s-requires
learnt-s-requires c = c.loop-q.invariant.2

pub loop-q-preserved : goal.loop-q-preserved
loop-q-preserved c =
    let a = c.args in
    let l = c.loop-q in
    let q = c.in-Some-q.q in
    let s = c.steps_of-n.ensures ∙ squared l.p q _ _ a.len c.minus-v.ensures c.dot-d.ensures in
    let e = piece_count l.p q c.next-in-loop-q.new.self a.len in
    let i = rw c.in-Some-q.ensures.steps at l.invariant.1 in
    (omega (arith, l.invariant.0, c.if-n-room.false), omega (arith, e, s, i), c.learnt-s.ensures)

pub returns : goal.returns
returns c =
    let a = c.args in
    let l = c.loop-q in
    let i = rw c.in-None.ensures.steps.0 at l.invariant.1 in
    let k : l.c ≡ length (resample_keep_corners (points a.line.now) a.len) = omega (arith, i, pieces_none l.p a.len) in
    k ∙ sym (capped_in a.room _ (omega (arith, k, l.invariant.0)))
