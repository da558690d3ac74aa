-- `put_bent` meets its contract: the sides that the iterator has left are still to be put. Assumes nothing.
use Rattle.std.proofs.Common.{arith, sym, ap, ◌∙◌, length}
use Rattle.seqs.specs.Put.{put_none}
use Rattle.seqs.specs.Front.{front_at}
use Rattle.seqs.specs.Wrote.{put_room, put_end}
use Rattle.geom.specs.Outline.{points}
use Rattle.geom.specs.OutlineLaws.{points_length}
use Rattle.geom.specs.Sewing.{flat}
use Rattle.geom.specs.SewingLaws.{flat_none}
use Rattle.satinrules.specs.Column.{sides_from, s_side, s_stitch}
use Rattle.styles.specs.SidesLaws.{sides_none, sides_over}
use Rattle.styles.proofs.Turns.{first_room, first_put, side_room, side_put}
use Rattle.styles.proofs.bent.put_bent.Goals as goal

pub returns-in_default : goal.returns-in_default
unfolding s_stitch
returns-in_default c =
    let e = flat_none (sides_none s_side (sym c.of-corners.ensures ∙ c.in_default.ensures.steps.0)) in
    rw e (put_none c.args.out.now c.args.k (omega (arith, c.requires)), omega arith)

pub put_point-requires : goal.put_point-requires
unfolding s_stitch
put_point-requires c = omega (arith, first_room s_side c.args.out.now c.args.k c.requires (sym c.of-corners.ensures ∙ c.in-Some.ensures.steps))

pub overflow_add-to : goal.overflow_add-to
unfolding s_stitch
overflow_add-to c = omega (arith, first_room s_side c.args.out.now c.args.k c.requires (sym c.of-corners.ensures ∙ c.in-Some.ensures.steps), c.well_formed)

pub loop-q-init : goal.loop-q-init
unfolding s_stitch
loop-q-init c =
    let e = sym c.of-corners.ensures ∙ c.in-Some.ensures.steps in
    rw c.into_iter-q-iterator.ensures.into_iter_gives (omega (arith, ap length e), first_put s_side c.args.out.now c.args.k c.requires e _ c.put_point.ensures)

pub put_side-to-requires : goal.put_side-to-requires
put_side-to-requires c =
    let a = c.args in
    let l = c.loop-q in
    let f = front_at (ap (λ ps. flat (sides_from s_side l.side l.p ps)) c.in-Some-q.ensures.steps) l.invariant.1 in
    side_room s_side l.side l.p c.in-Some-q.q c.next-in-loop-q.new.self f (put_room a.out.now (flat (s_stitch (points a.line.now))) a.k c.requires)

pub overflow_add-side : goal.overflow_add-side
overflow_add-side c = omega (arith, c.loop-q.invariant.0, points_length c.args.line.now, c.well_formed)

pub loop-q-preserved : goal.loop-q-preserved
loop-q-preserved c =
    let a = c.args in
    let l = c.loop-q in
    let n = rw c.in-Some-q.ensures.steps at l.invariant.0 in
    let f = front_at (ap (λ ps. flat (sides_from s_side l.side l.p ps)) c.in-Some-q.ensures.steps) l.invariant.1 in
    (omega (arith, n), rw c.put_side-to.ensures.1 (side_put s_side l.side l.p c.in-Some-q.q c.next-in-loop-q.new.self f (put_room a.out.now (flat (s_stitch (points a.line.now))) a.k c.requires) _ c.put_side-to.ensures.0))

pub shape_of-out : goal.shape_of-out
shape_of-out c = c.loop-q.invariant.1.len

pub returns : goal.returns
returns c =
    let a = c.args in
    let l = c.loop-q in
    put_end (flat (s_stitch (points a.line.now))) a.k (omega (arith, c.requires)) (front_at (flat_none (sides_over s_side l.side l.p c.in-None.ensures.steps.0)) l.invariant.1)
