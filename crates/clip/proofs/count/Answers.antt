-- `count` meets its contract: the runs of the points that are left are still to be counted. Assumes nothing.
use native.Mathlib.Omega.{arith}
use mathlib.Core.Path.{◌≡◌, sym, ap, ◌∙◌}
use Prim.Native.Nat.{◌+◌}
use lib.ListN.{length, length-append}
use Rattle.geom.specs.OutlineLaws.{points_length}
use Rattle.geom.specs.Rings.{rings_of}
use Rattle.rules.specs.Calls.{sewn_points}
use Rattle.patterns_rules.specs.Answers.{count_of}
use Rattle.patterns_rules.specs.Patterns.{clip_inside}
use Rattle.clip.specs.Clip.{clipped_in, added, ended, points_from, ends_from}
use Rattle.clip.specs.LineLaws.{line_points, line_runs, points_piece, ends_piece, points_last, ends_last}
use Rattle.clip.proofs.count.Goals as goal

pub returns-in_default : goal.returns-in_default
unfolding count_of sewn_points clip_inside
returns-in_default c = rw (sym c.of-corners.ensures ∙ c.in_default.ensures.steps.0)

pub loop-q-init : goal.loop-q-init
loop-q-init c =
    let r = rings_of c.args.area.outline in
    let rule = c.args.area.rule in
    let p = c.in-Some.p in
    let rest = c.next.new.self in
    rw (sym c.of-corners.ensures ∙ c.in-Some.ensures.steps, c.into_iter-q-iterator.ensures.into_iter_gives) (omega arith, omega arith, c.has-was.ensures, omega (arith, line_runs r rule p rest), omega (arith, ap length (line_points r rule p rest)))

pub overflow_add-s : goal.overflow_add-s
overflow_add-s c = let m = rw c.in-Some-q.ensures.steps at c.loop-q.invariant.0 in record { fits = omega (arith, c.ended-s.ensures.1, points_length c.args.line.now) }

pub overflow_add-at : goal.overflow_add-at
overflow_add-at c = let m = rw c.in-Some-q.ensures.steps at c.loop-q.invariant.1 in record { fits = omega (arith, c.added-at.ensures.1, points_length c.args.line.now) }

pub loop-q-preserved : goal.loop-q-preserved
loop-q-preserved c =
    let l = c.loop-q in
    let r = rings_of c.args.area.outline in
    let rule = c.args.area.rule in
    let k = c.piece_inside-kept.result in
    let q = c.in-Some-q.q in
    let rest = c.next-in-loop-q.new.self in
    let e = ap length (ends_piece r rule l.on l.p q rest c.piece_inside-kept.ensures l.at) ∙ length-append (ended k l.on l.at) (ends_from r rule k (l.at + length (added k l.on l.p q)) q rest) in
    let f = ap length (points_piece r rule l.on l.p q rest c.piece_inside-kept.ensures) ∙ length-append (added k l.on l.p q) (points_from r rule k q rest) in
    let i = rw c.in-Some-q.ensures.steps at l.invariant in
    (omega (arith, c.ended-s.ensures, i.0), omega (arith, c.added-at.ensures, i.1), c.has-is.ensures, rw c.added-at.ensures.0 (omega (arith, e, c.ended-s.ensures, i.3)), omega (arith, f, c.added-at.ensures, i.4))

pub overflow_add-result : goal.overflow_add-result
overflow_add-result c = record { fits = omega (arith, c.ended.ensures.1, c.loop-q.invariant.0, points_length c.args.line.now) }

pub returns : goal.returns
unfolding count_of
returns c =
    let l = c.loop-q in
    let r = rings_of c.args.area.outline in
    let rule = c.args.area.rule in
    let i = rw c.in-None.ensures.steps.0 at l.invariant in
    let e = ap length (ends_last r rule l.on l.p l.at) in
    let f = ap length (points_last r rule l.on l.p) in
    let x : l.s + c.ended.result ≡ length (clipped_in c.args.line.now c.args.area) = omega (arith, e, c.ended.ensures, i.3) in
    let y : l.at ≡ length (sewn_points (clipped_in c.args.line.now c.args.area)) = omega (arith, f, i.4) in
    rw (x, y)
