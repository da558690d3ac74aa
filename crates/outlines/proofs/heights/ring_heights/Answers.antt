use mathlib.Core.Path.{refl, ap, ◌∙◌}
use Prim.Native.Nat.{◌/◌, ◌+◌, ◌*◌}
use native.Mathlib.Omega.{arith}
use lib.ListN.{length}
use Rattle.geom.specs.Outline.{points}
use Rattle.geom.specs.OutlineLaws.{rising_turn}
use Rattle.outlines.proofs.Blocks.{rings_all, rings_full, heights_kept, rings_next, start_next, three_size}
use Rattle.outlines.proofs.heights.ring_heights.Goals as goal

pub loop-k-init : goal.loop-k-init
loop-k-init c = (refl, c.args.o.laid.rise, refl, c.requires, λ k u. absurd (omega arith))

pub returns-then-t-to : goal.returns-then-t-to
returns-then-t-to c = record { layout = c.args.o.laid; heights = c.loop-k.invariant.3; rings = rings_full c.loop-k.k (points c.args.o.corners.now) c.args.o.ends.now c.loop-k.t c.loop-k.invariant.4 (omega arith) }

pub part-requires : goal.part-requires
part-requires c =
    let t = rising_turn c.loop-k.a c.args.o.ends.now c.loop-k.k (length c.args.o.corners.now / 2) c.loop-k.invariant.1 (omega arith) in
    (t.from, t.to)

pub loop-k-preserved : goal.loop-k-preserved
loop-k-preserved c =
    let e' = c.put_height.ensures in
    let h = c.height_of-h.result in
    let t = rising_turn c.loop-k.a c.args.o.ends.now c.loop-k.k (length c.args.o.corners.now / 2) c.loop-k.invariant.1 (omega arith) in
    (start_next c.args.o.ends.now c.loop-k.k, t.rise, ap length e' ∙ three_size c.loop-k.t (3 * (128 + c.loop-k.k)) h.lo h.hi h.right ∙ c.loop-k.invariant.2, rw e' (heights_kept c.loop-k.k c.args.o.corners.now c.args.o.ends.now c.loop-k.t h.lo h.hi h.right (omega arith) c.loop-k.invariant.3), rw e' (rings_next c.loop-k.k c.args.o.corners.now c.args.o.ends.now c.loop-k.t h.lo h.hi h.right (omega arith) (rw (c.part.ensures, c.loop-k.invariant.0) at c.height_of-h.ensures) c.loop-k.invariant.4))

pub returns : goal.returns
returns c = record { layout = c.args.o.laid; heights = c.loop-k.invariant.3; rings = rings_all c.loop-k.k (points c.args.o.corners.now) c.args.o.ends.now c.loop-k.t c.loop-k.invariant.4 (omega arith) }
