use mathlib.Core.Path.{sym, ap, ◌∙◌}
use Prim.Native.Nat.{◌<◌}
use native.Mathlib.Omega.{arith}
use lib.ListN.{length}
use Rattle.seqs.specs.Move.{move_kept, move_passed, move_read, sift_next}
use Rattle.sweep.specs.Swept.{stays}
use Rattle.sweep.proofs.active.retain.Goals as goal
use Rattle.sweep.proofs.active.retain.Goals.{then-stays, else-stays}

pub loop-i-preserved : goal.loop-i-preserved
loop-i-preserved c =
    let a = c.args in
    let l = c.loop-i in
    let f = l.invariant in
    let h : l.i < length l.l = omega (arith, f.size, c.requires, c.loop-i-test.true) in
    let p = stays a.upward a.table.now a.y in
    let e = sift_next p a.l.now a.m l.i 0 c.loop-i-test.true c.requires in
    let t = ap p (sym (move_read 0 f h)) ∙ sym c.stays.ensures in
    elim c.if-stays.branch [ then-stays w ↦ rw (w.l-is, w.j-is) (move_kept _ 0 e (t ∙ w.if-stays.true) f h) | else-stays w ↦ rw (w.l-is, w.j-is) (move_passed _ 0 e (t ∙ w.if-stays.false) f h) ]
