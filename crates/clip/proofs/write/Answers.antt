-- `write` meets its contract: the runs of the points that are left are still to be written. Assumes nothing.
use native.Mathlib.Omega.{arith}
use mathlib.Core.Path.{refl, sym, ◌∙◌}
use mathlib.Core.Bool.{false}
use Rattle.seqs.specs.Front.{front_start, front_at, front_end}
use Rattle.geom.specs.OutlineLaws.{points_length}
use Rattle.geom.specs.Rings.{rings_of}
use Rattle.geom.specs.Sewing.{flat}
use Rattle.geom.specs.SewingLaws.{flat_none}
use Rattle.rules.specs.Calls.{sewn_points, sewn_ends}
use Rattle.rules.specs.CallLaws.{ends_length}
use Rattle.patterns_rules.specs.Answers.{count_of, left_points, left_ends}
use Rattle.patterns_rules.specs.Patterns.{clip_inside}
use Rattle.clip.specs.Clip.{clipped_in, ended}
use Rattle.clip.specs.LineLaws.{line_points, line_ends, points_last, ends_last}
use Rattle.clip.proofs.Turns.{added_room, added_put, ended_room, ended_put, last_room, last_put, all_counted}
use Rattle.clip.proofs.write.Goals as goal

pub returns-in_default : goal.returns-in_default
unfolding count_of flat left_ends left_points sewn_ends sewn_points clip_inside
returns-in_default c = rw (sym c.of-corners.ensures ∙ c.in_default.ensures.steps.0) (refl, refl, refl)

pub loop-q-init : goal.loop-q-init
loop-q-init c =
    let r = rings_of c.args.area.outline in
    let rule = c.args.area.rule in
    let p = c.in-Some.p in
    let rest = c.next.new.self in
    rw (sym c.of-corners.ensures ∙ c.in-Some.ensures.steps, c.into_iter-q-iterator.ensures.into_iter_gives) (omega arith, omega arith, c.has-was.ensures, rw (← line_points r rule p rest) (front_start _ _), rw (← line_ends r rule p rest) (front_start _ _))

pub put_ended-requires : goal.put_ended-requires
put_ended-requires c =
    let l = c.loop-q in
    let i = rw c.in-Some-q.ensures.steps at l.invariant in
    ended_room (rings_of c.args.area.outline) c.args.area.rule l.on l.p c.in-Some-q.q c.next-in-loop-q.new.self c.piece_inside-kept.ensures l.at i.4 (omega (arith, c.requires.1, ends_length 0 (clipped_in c.args.line.now c.args.area)))

pub put_added-requires : goal.put_added-requires
put_added-requires c =
    let l = c.loop-q in
    let i = rw c.in-Some-q.ensures.steps at l.invariant in
    added_room (rings_of c.args.area.outline) c.args.area.rule l.on l.p c.in-Some-q.q c.next-in-loop-q.new.self c.piece_inside-kept.ensures l.at i.3 c.requires.0

pub overflow_add-s : goal.overflow_add-s
overflow_add-s c = let m = rw c.in-Some-q.ensures.steps at c.loop-q.invariant.0 in record { fits = omega (arith, c.ended-s.ensures.1, points_length c.args.line.now) }

pub overflow_add-at : goal.overflow_add-at
overflow_add-at c = let m = rw c.in-Some-q.ensures.steps at c.loop-q.invariant.1 in record { fits = omega (arith, c.added-at.ensures.1, points_length c.args.line.now) }

pub loop-q-preserved : goal.loop-q-preserved
loop-q-preserved c =
    let l = c.loop-q in
    let r = rings_of c.args.area.outline in
    let i = rw c.in-Some-q.ensures.steps at l.invariant in
    let x = added_put r c.args.area.rule l.on l.p c.in-Some-q.q c.next-in-loop-q.new.self c.piece_inside-kept.ensures l.at i.3 c.requires.0 _ c.put_added.ensures c.added-at.ensures.0 in
    let y = ended_put r c.args.area.rule l.on l.p c.in-Some-q.q c.next-in-loop-q.new.self c.piece_inside-kept.ensures l.at i.4 (omega (arith, c.requires.1, ends_length 0 (clipped_in c.args.line.now c.args.area))) _ c.put_ended.ensures c.ended-s.ensures.0 c.added-at.ensures.0 in
    (omega (arith, c.ended-s.ensures, i.0), omega (arith, c.added-at.ensures, i.1), c.has-is.ensures, x, y)

pub put_ended-requires-2 : goal.put_ended-requires-2
put_ended-requires-2 c =
    let l = c.loop-q in
    let i = rw c.in-None.ensures.steps.0 at l.invariant in
    last_room l.on l.at (front_at (ends_last (rings_of c.args.area.outline) c.args.area.rule l.on l.p l.at) i.4) (omega (arith, c.requires.1, ends_length 0 (clipped_in c.args.line.now c.args.area)))

pub overflow_add-result : goal.overflow_add-result
overflow_add-result c = record { fits = omega (arith, c.ended.ensures.1, c.loop-q.invariant.0, points_length c.args.line.now) }

pub shape_of-out : goal.shape_of-out
shape_of-out c = c.loop-q.invariant.3.len

pub shape_of-stops : goal.shape_of-stops
shape_of-stops c =
    let l = c.loop-q in
    let i = rw c.in-None.ensures.steps.0 at l.invariant in
    (last_put l.on l.at (front_at (ends_last (rings_of c.args.area.outline) c.args.area.rule l.on l.p l.at) i.4) (omega (arith, c.requires.1, ends_length 0 (clipped_in c.args.line.now c.args.area))) _ c.put_ended-2.ensures).len

pub returns : goal.returns
unfolding left_ends left_points
returns c =
    let l = c.loop-q in
    let r = rings_of c.args.area.outline in
    let i = rw c.in-None.ensures.steps.0 at l.invariant in
    let x = front_at (flat_none (points_last r c.args.area.rule l.on l.p)) i.3 in
    let y = last_put l.on l.at (front_at (ends_last r c.args.area.rule l.on l.p l.at) i.4) (omega (arith, c.requires.1, ends_length 0 (clipped_in c.args.line.now c.args.area))) _ c.put_ended-2.ensures in
    (all_counted (clipped_in c.args.line.now c.args.area) (ended false l.on l.at) l.at l.s c.ended.result x y c.ended.ensures.0, front_end x, front_end y)
