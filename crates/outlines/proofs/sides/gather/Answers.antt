use Prim.Native.Nat.{◌-◌, ◌*◌, ◌/◌}
use native.Mathlib.Omega.{arith}
use lib.ListN.{length, drop, get_or, length-take}
use Rattle.seqs.specs.Wrote.{run_start}
use Rattle.geom.specs.Outline.{rings}
use Rattle.geom.specs.OutlineLaws.{rising_turn}
use Rattle.outlines.proofs.Loops.{part_even}
use Rattle.outlines.proofs.Gathering.{rings_turn, rings_ended, gathered}
use borrow.Author.Rules.{rules}
use Rattle.outlines.proofs.sides.gather.Goals as goal

pub loop-e-init : goal.loop-e-init
unfolding rings
loop-e-init c = (c.args.o.laid.rise, search rules, run_start _ _ _)

pub part-requires : goal.part-requires
part-requires c =
    let t = rising_turn c.loop-e.a c.args.o.ends.now c.loop-e.e-index (length c.args.o.corners.now / 2) c.loop-e.invariant.0 (omega arith) in
    (t.from, t.to)

pub put_ring-n-requires : goal.put_ring-n-requires
put_ring-n-requires c =
    let e = get_or c.args.o.ends.now c.loop-e.e-index 0 in
    let t = rising_turn c.loop-e.a c.args.o.ends.now c.loop-e.e-index (length c.args.o.corners.now / 2) c.loop-e.invariant.0 (omega arith) in
    rw c.part.ensures (part_even c.args.o.corners.now c.loop-e.a e t.from (omega (arith, t.to)), omega (arith, t.from, t.to, c.loop-e.invariant.1, length-take (2 * e - 2 * c.loop-e.a) (drop (2 * c.loop-e.a) c.args.o.corners.now)))

pub loop-e-preserved : goal.loop-e-preserved
loop-e-preserved c =
    let e = get_or c.args.o.ends.now c.loop-e.e-index 0 in
    let t = rising_turn c.loop-e.a c.args.o.ends.now c.loop-e.e-index (length c.args.o.corners.now / 2) c.loop-e.invariant.0 (omega arith) in
    let x = rw c.part.ensures at c.put_ring-n.ensures in
    (t.rise, omega (arith, t.from, c.loop-e.invariant.1, x.2, length-take (2 * e - 2 * c.loop-e.a) (drop (2 * c.loop-e.a) c.args.o.corners.now)), rings_turn c.args.y c.args.o.ends.now c.args.o.corners.now c.loop-e.a c.loop-e.e-index (omega arith) c.loop-e.invariant.2 x.0 x.1)

pub shape_of-out : goal.shape_of-out
shape_of-out c = c.loop-e.invariant.2.size

pub returns : goal.returns
returns c = gathered (rings c.args.o.corners.now c.args.o.ends.now) c.args.y (rings_ended c.args.y c.args.o.ends.now c.args.o.corners.now c.loop-e.a c.loop-e.e-index (omega arith) c.loop-e.invariant.2)
