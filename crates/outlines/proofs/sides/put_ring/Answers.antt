use native.Mathlib.Omega.{arith}
use Rattle.geom.specs.OutlineLaws.{points_length}
use Rattle.seqs.specs.Wrote.{run_start, run_at, run_end, wrote_none}
use Rattle.outlines.specs.Sides.{chain_sides}
use Rattle.outlines.proofs.Gathering.{ring_none, ring_begins, chain_turn}
use Rattle.outlines.proofs.sides.put_ring.Goals as goal

pub returns-then-n-lt6 : goal.returns-then-n-lt6
returns-then-n-lt6 c =
    let e = ring_none c.args.y c.args.l.now (omega arith) in
    rw e (wrote_none _ _, omega arith, omega arith)

pub loop-b-init : goal.loop-b-init
loop-b-init c =
    let e = ring_begins c.args.y c.args.l.now c.requires.0 (omega arith) in
    rw (c.into_iter-b-iterator.ensures.into_iter_gives, c.of-b-items.ensures) (omega (arith, points_length c.args.l.now), rw c.corner-a.ensures (run_at e (run_start _ _ _)))

pub put_across-at-requires : goal.put_across-at-requires
put_across-at-requires c = omega (arith, c.requires.1)

pub loop-b-preserved : goal.loop-b-preserved
loop-b-preserved c =
    let l = c.loop-b in
    let x = c.put_across-at.ensures in
    let m = rw c.in-Some.ensures.steps at l.invariant.0 in
    (omega (arith, x.2), chain_turn c.args.y l.a c.in-Some.b c.next.new.self (rw c.in-Some.ensures.steps at l.invariant.1) x.0 x.1)

pub shape_of-out : goal.shape_of-out
shape_of-out c = c.loop-b.invariant.1.size

pub returns : goal.returns
unfolding chain_sides
returns c =
    let f = rw c.in-None.ensures.steps.0 at c.loop-b.invariant.1 in
    (run_end f, omega (arith, f.count), omega arith)
