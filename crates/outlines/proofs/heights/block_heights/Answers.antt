use mathlib.Core.Path.{refl, ap, ◌∙◌}
use Prim.Native.Nat.{◌/◌, ◌*◌}
use native.Mathlib.Omega.{arith}
use lib.ListN.{length}
use Rattle.geom.specs.Outline.{points}
use Rattle.geom.specs.OutlineLaws.{points_length}
use Rattle.outlines.proofs.Blocks.{known_all, known_full, known_most, known_next, three_size}
use borrow.Author.Rules.{rules}
use Rattle.outlines.proofs.heights.block_heights.Goals as goal

pub loop-k-init : goal.loop-k-init
loop-k-init c = (search rules, search rules, refl, λ b k u few s n p q. absurd (omega arith))

pub returns-then-t-to : goal.returns-then-t-to
returns-then-t-to c = known_full c.loop-k.k (points c.args.corners.now) c.loop-k.t c.loop-k.invariant.3 c.loop-k.invariant.0 (omega arith)

pub returns-then-to : goal.returns-then-to
returns-then-to c = known_most c.loop-k.k (points c.args.corners.now) c.loop-k.t c.loop-k.invariant.3 c.loop-k.invariant.0 (omega arith)

pub loop-k-preserved : goal.loop-k-preserved
loop-k-preserved c =
    let e' = c.put_height.ensures in
    let h = c.height_of-h.result in
    let e = c.block_end-e.ensures in
    (omega arith, omega arith, ap length e' ∙ three_size c.loop-k.t (3 * (c.loop-k.k / 8)) h.lo h.hi h.right ∙ c.loop-k.invariant.2, rw e' (known_next c.loop-k.k c.block_end-e.result c.args.corners.now c.loop-k.t h.lo h.hi h.right c.loop-k.invariant.0 (omega arith) e c.height_of-h.ensures c.loop-k.invariant.3))

pub returns : goal.returns
returns c = known_all c.loop-k.k (points c.args.corners.now) c.loop-k.t c.loop-k.invariant.3 (omega (arith, points_length c.args.corners.now))
