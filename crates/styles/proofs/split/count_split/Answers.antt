-- `count_split` meets its contract: the points of the sides that are left are still to be counted. Assumes nothing.
use Rattle.std.proofs.Common.{arith, sym, ap, ◌∙◌, ◌≡◌, ◌+◌, length}
use Rattle.std.specs.Float.Ieee.{Float}
use Rattle.seqs.specs.Capped.{capped_in, capped_over}
use Rattle.geom.specs.Steps.{steps}
use Rattle.geom.specs.Outline.{points}
use Rattle.polyline.specs.AlikeLaws.{root_dist}
use Rattle.satinrules.specs.Column.{split_side, split_long}
use Rattle.styles.specs.SidesLaws.{sides_none, count_start, count_next, sides_over, split_length}
use Rattle.styles.proofs.split.count_split.Goals as goal

pub returns-in_default : goal.returns-in_default
unfolding split_long
returns-in_default c = rw (sides_none (split_side c.args.max) (sym c.of-corners.ensures ∙ c.in_default.ensures.steps.0)) (sym (capped_in c.args.room 0 (omega arith)))

pub returns-then-room-eq0 : goal.returns-then-room-eq0
unfolding split_long
returns-then-room-eq0 c =
    let a = c.args in
    let n = count_start (split_side a.max) (sym c.of-corners.ensures ∙ c.in-Some.ensures.steps) in
    omega (arith, c.if-room-eq0.true, capped_over a.room (length (split_long (points a.line.now) a.max)) (omega (arith, c.if-room-eq0.true, n)))

pub loop-q-init : goal.loop-q-init
unfolding split_long
loop-q-init c =
    let n = count_start (split_side c.args.max) (sym c.of-corners.ensures ∙ c.in-Some.ensures.steps) in
    (omega arith, (0, rw c.into_iter-q-iterator.ensures.into_iter_gives (sym n)), c.pieces_of-two.ensures.0)

pub points_of-n-requires : goal.points_of-n-requires
points_of-n-requires c = c.known-told.ensures c.args.max c.pieces_of-one.ensures.0 c.pieces_of-two.ensures.0 c.loop-q.invariant.2

pub returns-then-n-room : goal.returns-then-n-room
returns-then-n-room c =
    let a = c.args in
    let l = c.loop-q in
    let q = c.in-Some-q.q in
    let k = l.invariant.1 in
    let s = c.points_of-n.ensures ∙ ap (λ (r : Float). steps r a.max) (root_dist l.p q _ _ c.minus-v.ensures c.dot-d.ensures) in
    let e = count_next (split_side a.max) k.0 l.p q c.next-in-loop-q.new.self in
    let i = rw c.in-Some-q.ensures.steps at k.1 in
    sym (capped_over a.room _ (omega (arith, e, s, split_length l.p q a.max k.0, l.invariant.0, i, c.if-n-room.true)))

pub learnt-s-requires : goal.learnt-s-requires
learnt-s-requires c = c.loop-q.invariant.2

pub loop-q-preserved : goal.loop-q-preserved
loop-q-preserved c =
    let a = c.args in
    let l = c.loop-q in
    let q = c.in-Some-q.q in
    let k = l.invariant.1 in
    let s = c.points_of-n.ensures ∙ ap (λ (r : Float). steps r a.max) (root_dist l.p q _ _ c.minus-v.ensures c.dot-d.ensures) in
    let e = count_next (split_side a.max) k.0 l.p q c.next-in-loop-q.new.self in
    let i = rw c.in-Some-q.ensures.steps at k.1 in
    (omega (arith, l.invariant.0, c.if-n-room.false), (k.0 + 1, omega (arith, e, s, split_length l.p q a.max k.0, i)), c.learnt-s.ensures)

pub returns : goal.returns
returns c =
    let a = c.args in
    let l = c.loop-q in
    let k = l.invariant.1 in
    let e = ap length (sides_over (split_side a.max) k.0 l.p c.in-None.ensures.steps.0) in
    let n : l.c ≡ length (split_long (points a.line.now) a.max) = omega (arith, e, k.1) in
    n ∙ sym (capped_in a.room _ (omega (arith, n, l.invariant.0)))
