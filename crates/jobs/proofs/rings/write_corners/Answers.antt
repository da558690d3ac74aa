-- The invariant: the rings to come are well framed, and their corners are what is left to write.
use mathlib.Core.Path.{◌≡◌, sym, ap, ◌∙◌}
use Prim.Native.Nat.{ℕ, ◌+◌, ◌-◌, ◌*◌}
use native.Mathlib.Omega.{arith}
use lib.ListN.{length, drop, length-drop}
use Rattle.seqs.specs.Front.{front_start, front_at, front_block, front_room_block, front_end, rest_length}
use Rattle.jobs.specs.Job.{floats, corners_from}
use Rattle.jobs.specs.JobLaws.{ring, behind_at, floats_length, corners_at, corners_none}
use Rattle.jobs.proofs.rings.write_corners.Goals as goal

pub loop-init : goal.loop-init
loop-init c = let e : c.args.rings - 0 ≡ c.args.rings = omega arith in ((c.requires.0.corners, rw e c.requires.0.is), rw e (front_start _ _), c.requires.0.long, omega arith)

pub count_at-c-requires : goal.count_at-c-requires
count_at-c-requires c =
    let l = c.loop in
    let r = ring (c.args.rings - c.loop.counter) c.loop.n (drop c.loop.at c.args.s.now) c.loop.invariant.0.0 (omega arith) c.loop.invariant.0.1 in
    omega (arith, r.whole, length-drop l.at c.args.s.now)

pub overflow_mul-c : goal.overflow_mul-c
overflow_mul-c c = omega (arith, c.count_at-c.ensures.1, (ring (c.args.rings - c.loop.counter) c.loop.n (drop c.loop.at c.args.s.now) c.loop.invariant.0.0 (omega arith) c.loop.invariant.0.1).few, c.count_at-c.ensures.0)

pub write_floats-requires : goal.write_floats-requires
write_floats-requires c =
    let l = c.loop in
    let s = c.args.s.now in
    let e = c.count_at-c.ensures.0 in
    let r = ring (c.args.rings - c.loop.counter) c.loop.n (drop c.loop.at c.args.s.now) c.loop.invariant.0.0 (omega arith) c.loop.invariant.0.1 in
    let f = front_at (corners_at s l.at (c.args.rings - l.counter) _ (omega arith) e) l.invariant.1 in
    let h = front_room_block (floats (2 * c.count_at-c.result) (drop (l.at + 2) s)) _ f c.requires.1 in
    (omega (arith, r.whole, length-drop l.at s, e), omega (arith, h, floats_length (2 * c.count_at-c.result) (drop (l.at + 2) s), rest_length l.corners (2 * l.n) (omega (arith, l.invariant.1.at, l.invariant.1.len))))

pub overflow_add-n : goal.overflow_add-n
overflow_add-n c = omega (arith, c.count_at-c.ensures.1, (ring (c.args.rings - c.loop.counter) c.loop.n (drop c.loop.at c.args.s.now) c.loop.invariant.0.0 (omega arith) c.loop.invariant.0.1).few, c.count_at-c.ensures.0)

pub overflow_mul-at : goal.overflow_mul-at
overflow_mul-at c = omega (arith, c.count_at-c.ensures.1, (ring (c.args.rings - c.loop.counter) c.loop.n (drop c.loop.at c.args.s.now) c.loop.invariant.0.0 (omega arith) c.loop.invariant.0.1).few, c.count_at-c.ensures.0)

pub overflow_add-at-in-loop : goal.overflow_add-at-in-loop
overflow_add-at-in-loop c = omega (arith, c.count_at-c.ensures.1, (ring (c.args.rings - c.loop.counter) c.loop.n (drop c.loop.at c.args.s.now) c.loop.invariant.0.0 (omega arith) c.loop.invariant.0.1).few, c.count_at-c.ensures.0)

pub overflow_add-at-in-loop-2 : goal.overflow_add-at-in-loop-2
overflow_add-at-in-loop-2 c =
    let l = c.loop in
    let r = ring (c.args.rings - c.loop.counter) c.loop.n (drop c.loop.at c.args.s.now) c.loop.invariant.0.0 (omega arith) c.loop.invariant.0.1 in
    omega (arith, r.whole, length-drop l.at c.args.s.now, c.count_at-c.ensures.0)

pub loop-preserved : goal.loop-preserved
loop-preserved c =
    let l = c.loop in
    let s = c.args.s.now in
    let e = c.count_at-c.ensures.0 in
    let r = ring (c.args.rings - c.loop.counter) c.loop.n (drop c.loop.at c.args.s.now) c.loop.invariant.0.0 (omega arith) c.loop.invariant.0.1 in
    let m = floats (2 * c.count_at-c.result) (drop (l.at + 2) s) in
    let f = front_at (corners_at s l.at (c.args.rings - l.counter) _ (omega arith) e) l.invariant.1 in
    let h = front_room_block m _ f c.requires.1 in
    let k : 2 * l.n + length m ≡ 2 * (l.n + c.count_at-c.result) = omega (arith, floats_length (2 * c.count_at-c.result) (drop (l.at + 2) s)) in
    let q : c.args.rings - l.counter - 1 ≡ c.args.rings - (l.counter + 1) = omega arith in
    ((l.invariant.0.0, rw (sym (behind_at s l.at _ e), e, sym q) r.rest), rw (sym q) (rw k at (front_block m _ _ f h c.write_floats.ensures)), omega (arith, r.whole, length-drop l.at s, e), omega (arith, r.few, e))

pub shape_of-corners : goal.shape_of-corners
shape_of-corners c = c.loop.invariant.1.len

pub returns : goal.returns
returns c =
    let l = c.loop in
    let z : (c.args.rings - l.counter) ≡ 0 = omega arith in
    front_end (front_at (ap (λ (k : ℕ). corners_from k (drop l.at c.args.s.now)) z ∙ corners_none _) l.invariant.1)
