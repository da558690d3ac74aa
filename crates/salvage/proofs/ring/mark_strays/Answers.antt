use mathlib.Core.Path.{◌∙◌}
use Prim.Native.Nat.{ℕ}
use native.Mathlib.Omega.{arith}
use lib.ListN.{length-set}
use Rattle.std.specs.Prelude.{None}
use Rattle.seqs.specs.Front.{front_start, front_push, front_end}
use Rattle.seqs.specs.Reads.{whole}
use Rattle.geom.specs.Outline.{points}
use Rattle.geom.specs.OutlineLaws.{points_length}
use Rattle.salvage.specs.Ring.{strays}
use Rattle.salvage.specs.RingLaws.{strays_length}
use Rattle.salvage.proofs.ring.mark_strays.Goals as goal

pub loop-i-init : goal.loop-i-init
loop-i-init c =
    let i = c.into_iter-i-iterator.ensures.into_iter_gives in
    let a = c.enumerate-i-items.ensures.source in
    let b = c.enumerate-i-items.ensures.count in
    rw (i, a, b, c.of.ensures) (omega (arith, points_length c.args.ring.now, c.requires), front_start _ _)

pub bounds-marks-i : goal.bounds-marks-i
bounds-marks-i c =
    let s = c.in-Some.ensures.steps in
    let n = rw s.0 at c.loop-i.invariant.0 in
    omega (arith, n, s.1)

pub loop-i-preserved : goal.loop-i-preserved
unfolding strays
loop-i-preserved c =
    let l = c.loop-i in
    let s = c.in-Some.ensures.steps in
    let n = rw s.0 at l.invariant.0 in
    let f = rw s.0 at l.invariant.1 in
    rw (s.2, s.1) (omega (arith, n, s.1, length-set {A = ℕ}), rw (c.after-last.ensures, c.stray-m.ensures) (front_push f (omega (arith, n, s.1))))

pub returns : goal.returns
unfolding strays
returns c =
    let r = c.args.ring.now in
    front_end (rw c.in-None.ensures.steps.0.0 at c.loop-i.invariant.1) ∙ whole (strays None (points r)) c.args.marks.now (strays_length None (points r) ∙ omega (arith, points_length r, c.requires))
