-- The points on the way, and the end. Assumes nothing.
use mathlib.Core.Path.{ap}
use native.Mathlib.Omega.{arith}
use lib.ListN.{length-set}
use Rattle.seqs.specs.Front.{front_from, front_at, front_push2, front_end}
use Rattle.geom.specs.Sewing.{flat}
use Rattle.sewing.specs.Sewing.{back}
use Rattle.sewing.proofs.Loops.{gap_all, gap_size, gap_next, gap_last}
use borrow.Author.Rules.{rules}
use Rattle.sewing.proofs.stitch.put_gap.Goals as goal

pub loop-i-init : goal.loop-i-init
loop-i-init c =
    let a = c.args in
    (omega arith, front_at (ap (λ l. flat (back a.c a.s l)) (gap_all a.p a.q a.n)) (front_from _ _ a.k (omega (arith, c.requires))))

pub overflow_add-n : goal.overflow_add-n
overflow_add-n c = omega (arith, gap_size c.args.p c.args.q c.args.n c.args.c c.args.s, c.requires)

pub bounds-out-at : goal.bounds-out-at
bounds-out-at c = omega (arith, c.loop-i.invariant.1.len, gap_size c.args.p c.args.q c.args.n c.args.c c.args.s, c.requires)

pub bounds-out-at-in-loop-i : goal.bounds-out-at-in-loop-i
bounds-out-at-in-loop-i c = rw length-set (omega (arith, c.loop-i.invariant.1.len, gap_size c.args.p c.args.q c.args.n c.args.c c.args.s, c.requires))

pub loop-i-preserved : goal.loop-i-preserved
loop-i-preserved c =
    let a = c.args in
    let l = c.loop-i in
    let f = front_push2 (front_at (gap_next a.p a.q a.n a.c a.s l.i (search rules)) l.invariant.1) (omega (arith, l.invariant.1.len, gap_size a.p a.q a.n a.c a.s, c.requires)) in
    (omega arith, rw (c.rotate-t.ensures, c.lerp.ensures, c.of_u64.ensures, c.of_u64-in-loop-i.ensures) f)

pub bounds-out-at-2 : goal.bounds-out-at-2
bounds-out-at-2 c = omega (arith, c.loop-i.invariant.1.len, gap_size c.args.p c.args.q c.args.n c.args.c c.args.s, c.requires)

pub bounds-out-at-3 : goal.bounds-out-at-3
bounds-out-at-3 c = rw length-set (omega (arith, c.loop-i.invariant.1.len, gap_size c.args.p c.args.q c.args.n c.args.c c.args.s, c.requires))

pub returns : goal.returns
returns c =
    let a = c.args in
    let l = c.loop-i in
    let f = front_push2 (front_at (gap_last a.p a.q a.n a.c a.s l.i (omega arith)) l.invariant.1) (omega (arith, l.invariant.1.len, gap_size a.p a.q a.n a.c a.s, c.requires)) in
    (rw c.rotate-t-2.ensures (front_end f), omega (arith, gap_size a.p a.q a.n a.c a.s))
