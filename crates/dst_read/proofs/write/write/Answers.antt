-- `write` meets its contract: the points of the records from r on are to be written from 2·r on, their marks from r on. Assumes nothing.
use mathlib.Core.Path.{◌≡◌, ◌∙◌}
use Prim.Native.Nat.{◌-◌, ◌*◌}
use native.Mathlib.Omega.{arith}
use lib.ListN.{drop, length-set}
use Rattle.seqs.specs.Front.{front_start, front_at, front_end}
use Rattle.dst_read.specs.Lifted.{whole_at}
use Rattle.dst_read.specs.LiftedLaws.{lifted_origin}
use Rattle.dst_read.proofs.Turns.{put_next, last_points, last_marks}
use borrow.Author.Rules.{rules}
use Rattle.dst_read.proofs.write.write.Goals as goal

pub loop-r-init : goal.loop-r-init
loop-r-init c = let e : c.args.n - 0 ≡ c.args.n = omega arith in (omega arith, omega arith, omega arith, omega arith, rw (lifted_origin, e) (front_start _ _), rw (lifted_origin, e) (front_start _ _))

pub overflow_sub-y : goal.overflow_sub-y
overflow_sub-y c = omega (arith, c.loop-r.invariant.2, c.taken_y.ensures.1, c.requires.few, c.loop-r-test.true)

pub overflow_mul-points : goal.overflow_mul-points
overflow_mul-points c = omega (arith, c.loop-r-test.true, c.requires.few)

pub offset_bounds-points-r : goal.offset_bounds-points-r
offset_bounds-points-r c = omega (arith, c.loop-r-test.true, c.requires.few)

pub bounds-points-r : goal.bounds-points-r
bounds-points-r c = omega (arith, c.loop-r.invariant.4.len, c.requires.points_fit, c.loop-r-test.true)

pub overflow_mul-points-in-loop-r : goal.overflow_mul-points-in-loop-r
overflow_mul-points-in-loop-r c = omega (arith, c.loop-r-test.true, c.requires.few)

pub overflow_add-points : goal.overflow_add-points
overflow_add-points c = omega (arith, c.loop-r-test.true, c.requires.few)

pub offset_bounds-points-r-in-loop-r : goal.offset_bounds-points-r-in-loop-r
offset_bounds-points-r-in-loop-r c = omega (arith, c.loop-r-test.true, c.requires.few)

pub bounds-points-r-in-loop-r : goal.bounds-points-r-in-loop-r
bounds-points-r-in-loop-r c = simp length-set (omega (arith, c.loop-r.invariant.4.len, c.requires.points_fit, c.loop-r-test.true))

pub offset_bounds-marks-r : goal.offset_bounds-marks-r
offset_bounds-marks-r c = omega (arith, c.loop-r-test.true, c.requires.few)

pub bounds-marks-r : goal.bounds-marks-r
bounds-marks-r c = omega (arith, c.loop-r.invariant.5.len, c.requires.marks_fit, c.loop-r-test.true)

pub loop-r-preserved : goal.loop-r-preserved
loop-r-preserved c =
    let a = c.args in
    let l = c.loop-r in
    let t = put_next a.bytes.now a.n l.r c.loop-r-test.true c.requires.stand l.x l.y c.at-record.result.a c.at-record.result.b c.at-record.result.c c.added_x.result c.taken_x.result c.added_y.result c.taken_y.result c.at-record.ensures.0 c.at-record.ensures.1 c.at-record.ensures.2 c.added_x.ensures.0 c.taken_x.ensures.0 c.added_y.ensures.0 c.taken_y.ensures.0 (omega (arith, l.invariant.0, c.taken_x.ensures.1, c.requires.few, c.loop-r-test.true)) (omega (arith, l.invariant.2, c.taken_y.ensures.1, c.requires.few, c.loop-r-test.true)) l.invariant.4 l.invariant.5 c.requires.points_fit c.requires.marks_fit c.back.result c.back-in-loop-r.result c.from.result c.back.ensures c.back-in-loop-r.ensures (c.from.ensures ∙ c.mark.ensures) in
    (omega (arith, l.invariant.0, c.added_x.ensures.1, c.taken_x.ensures.1), omega (arith, l.invariant.1, c.added_x.ensures.1, c.taken_x.ensures.1), omega (arith, l.invariant.2, c.added_y.ensures.1, c.taken_y.ensures.1), omega (arith, l.invariant.3, c.added_y.ensures.1, c.taken_y.ensures.1), t.0, t.1)

pub shape_of-points : goal.shape_of-points
shape_of-points c = c.loop-r.invariant.4.len

pub shape_of-marks : goal.shape_of-marks
shape_of-marks c = c.loop-r.invariant.5.len

pub returns : goal.returns
returns c =
    let l = c.loop-r in
    let a = c.args in
    (front_end (front_at (last_points (drop (3 * l.r) a.bytes.now) (whole_at l.x l.y) a.n l.r (search rules)) l.invariant.4), front_end (front_at (last_marks (drop (3 * l.r) a.bytes.now) (whole_at l.x l.y) a.n l.r (search rules)) l.invariant.5))
