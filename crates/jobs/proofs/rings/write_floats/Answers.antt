-- The invariant: the floats to come are what is left to write.
use mathlib.Core.Path.{◌≡◌}
use Prim.Native.Nat.{◌+◌, ◌-◌, ◌*◌}
use native.Mathlib.Omega.{arith}
use lib.ListN.{drop}
use Rattle.seqs.specs.Front.{front_start, front_at, front_push, front_end}
use Rattle.jobs.specs.JobLaws.{floats_turn, floats_end}
use Rattle.jobs.proofs.rings.write_floats.Goals as goal

pub loop-i-init : goal.loop-i-init
loop-i-init c =
    let e : c.args.at + 8 * 0 ≡ c.args.at = omega arith in
    let f : c.args.n - 0 ≡ c.args.n = omega arith in
    rw (e, f) (front_start _ _)

pub offset_bounds-out-i : goal.offset_bounds-out-i
offset_bounds-out-i c = omega (arith, c.loop-i.invariant.len)

pub bounds-out-i : goal.bounds-out-i
bounds-out-i c = omega (arith, c.loop-i.invariant.len)

pub loop-i-preserved : goal.loop-i-preserved
loop-i-preserved c =
    let l = c.loop-i in
    let t = front_at (floats_turn c.args.s.now c.args.at c.args.n l.i c.loop-i-test.true) l.invariant in
    rw c.float_at.ensures (front_push t (omega (arith, l.invariant.len)))

pub shape_of-out : goal.shape_of-out
shape_of-out c = c.loop-i.invariant.len

pub returns : goal.returns
returns c =
    let l = c.loop-i in
    front_end (front_at (floats_end (drop (c.args.at + 8 * l.i) c.args.s.now) c.args.n l.i (omega arith)) l.invariant)
