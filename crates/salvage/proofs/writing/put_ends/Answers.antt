use Prim.Native.Nat.{◌-◌}
use native.Mathlib.Omega.{arith}
use lib.ListN.{length, take, drop, get_or, length-take, length-drop}
use Rattle.seqs.specs.Front.{front_start, front_at, front_room, front_push, front_end}
use Rattle.seqs.specs.Sift.{sift_length}
use Rattle.geom.specs.OutlineLaws.{rising_turn}
use Rattle.salvage.specs.Ring.{kept}
use Rattle.salvage.specs.OutlineLaws.{counted_length}
use Rattle.salvage.proofs.Rings.{ends_turn, ends_end}
use borrow.Author.Rules.{rules}
use Rattle.salvage.proofs.writing.put_ends.Goals as goal

pub loop-k-init : goal.loop-k-init
loop-k-init c = (search rules, c.requires.0, front_start _ _)

pub offset_bounds-marks-a : goal.offset_bounds-marks-a
offset_bounds-marks-a c =
    let l = c.loop-k in
    let t = rising_turn l.a c.args.ends.now l.k (length c.args.marks.now) l.invariant.1 c.loop-k-test.true in
    omega (arith, t)

pub slice_bounds-count_kept-count : goal.slice_bounds-count_kept-count
slice_bounds-count_kept-count c =
    let l = c.loop-k in
    let t = rising_turn l.a c.args.ends.now l.k (length c.args.marks.now) l.invariant.1 c.loop-k-test.true in
    omega (arith, t)

pub slice_bounds-count_kept-start : goal.slice_bounds-count_kept-start
slice_bounds-count_kept-start c =
    let l = c.loop-k in
    let t = rising_turn l.a c.args.ends.now l.k (length c.args.marks.now) l.invariant.1 c.loop-k-test.true in
    omega (arith, t)

pub slice_bounds-count_kept-end : goal.slice_bounds-count_kept-end
slice_bounds-count_kept-end c =
    let l = c.loop-k in
    let t = rising_turn l.a c.args.ends.now l.k (length c.args.marks.now) l.invariant.1 c.loop-k-test.true in
    omega (arith, t)

pub overflow_add-n : goal.overflow_add-n
overflow_add-n c =
    let l = c.loop-k in
    let ms = c.args.marks.now in
    let e = get_or c.args.ends.now l.k 0 in
    let t = rising_turn l.a c.args.ends.now l.k (length ms) l.invariant.1 c.loop-k-test.true in
    let s = simp (length-take, length-drop) at (sift_length kept (take (e - l.a) (drop l.a ms))) in
    omega (arith, t, s, c.count_kept-n.ensures, l.invariant.0)

pub offset_bounds-out-k : goal.offset_bounds-out-k
offset_bounds-out-k c =
    let l = c.loop-k in
    let ms = c.args.marks.now in
    let es = c.args.ends.now in
    omega (arith, front_room (front_at (ends_turn l.a es l.k ms l.n c.loop-k-test.true) l.invariant.2) (omega (arith, counted_length 0 es ms 0, c.requires.1)))

pub bounds-out-k : goal.bounds-out-k
bounds-out-k c =
    let l = c.loop-k in
    let ms = c.args.marks.now in
    let es = c.args.ends.now in
    omega (arith, front_room (front_at (ends_turn l.a es l.k ms l.n c.loop-k-test.true) l.invariant.2) (omega (arith, counted_length 0 es ms 0, c.requires.1)))

pub loop-k-preserved : goal.loop-k-preserved
loop-k-preserved c =
    let l = c.loop-k in
    let ms = c.args.marks.now in
    let es = c.args.ends.now in
    let e = get_or es l.k 0 in
    let t = rising_turn l.a es l.k (length ms) l.invariant.1 c.loop-k-test.true in
    let s = simp (length-take, length-drop) at (sift_length kept (take (e - l.a) (drop l.a ms))) in
    let f = front_at (ends_turn l.a es l.k ms l.n c.loop-k-test.true) l.invariant.2 in
    (omega (arith, t, s, c.count_kept-n.ensures, l.invariant.0), t.rise, rw c.count_kept-n.ensures (front_push f (front_room f (omega (arith, counted_length 0 es ms 0, c.requires.1)))))

pub returns : goal.returns
returns c =
    let l = c.loop-k in
    front_end (front_at (ends_end l.a c.args.ends.now l.k c.args.marks.now l.n (search rules)) l.invariant.2)
