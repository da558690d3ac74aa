use mathlib.Core.Path.{refl, sym, ◌∙◌}
use Prim.Native.Nat.{◌-◌, ◌/◌, ◌*◌, ◌≤◌}
use native.Mathlib.Omega.{arith}
use lib.ListN.{length, drop, get_or, length-take}
use lib.IntN.{nat_abs, +ℤ_idl}
use mir.Syntax.{w64}
use mir.Val.{to_z}
use Rattle.geom.specs.Outline.{rings}
use Rattle.geom.specs.OutlineLaws.{rising_turn}
use Rattle.outlines.proofs.Loops.{sum, rings_next, rings_end, part_even, part_small}
use Rattle.outlines.proofs.Blocks.{ring_heights, ring_block, start_next}
use borrow.Author.Rules.{rules}
use Rattle.outlines.proofs.area.Area.winding.Goals as goal

pub loop-k-init : goal.loop-k-init
unfolding rings
loop-k-init c = (search rules, c.args.self.measured.layout.rise, +ℤ_idl _, refl)

pub part-requires : goal.part-requires
part-requires c =
    let t = rising_turn c.loop-k.a c.args.self.outline.ends.now c.loop-k.k (length c.args.self.outline.corners.now / 2) c.loop-k.invariant.1 (omega arith) in
    (t.from, t.to)

pub ring-w-requires : goal.ring-w-requires
ring-w-requires c =
    let e = get_or c.args.self.outline.ends.now c.loop-k.k 0 in
    let t = rising_turn c.loop-k.a c.args.self.outline.ends.now c.loop-k.k (length c.args.self.outline.corners.now / 2) c.loop-k.invariant.1 (omega arith) in
    rw c.part.ensures (part_even c.args.self.outline.corners.now c.loop-k.a e t.from (omega (arith, t.to)), omega (arith, t.from, t.to, length-take (2 * e - 2 * c.loop-k.a) (drop (2 * c.loop-k.a) c.args.self.outline.corners.now)), ring_heights c.loop-k.a e c.args.self.outline.corners.now c.args.self.heights.now c.args.self.measured.heights, rw c.loop-k.invariant.3 (ring_block c.loop-k.k c.args.self.outline.corners.now c.args.self.outline.ends.now c.args.self.heights.now c.args.self.measured.rings (omega arith)))

pub overflow_add-w : goal.overflow_add-w
overflow_add-w c =
    let e = get_or c.args.self.outline.ends.now c.loop-k.k 0 in
    let t = rising_turn c.loop-k.a c.args.self.outline.ends.now c.loop-k.k (length c.args.self.outline.corners.now / 2) c.loop-k.invariant.1 (omega arith) in
    let k : nat_abs c.ring-w.result ≤ e - c.loop-k.a = rw (c.ring-w.ensures, c.part.ensures) (part_small c.args.p c.args.self.outline.ends.now c.args.self.outline.corners.now c.loop-k.a e) in
    (sum c.loop-k.w-bits c.ring-w.result (length c.args.self.outline.corners.now / 2) (omega (arith, t.from, t.to)) (omega arith)).fits

pub loop-k-preserved : goal.loop-k-preserved
loop-k-preserved c =
    let e = get_or c.args.self.outline.ends.now c.loop-k.k 0 in
    let t = rising_turn c.loop-k.a c.args.self.outline.ends.now c.loop-k.k (length c.args.self.outline.corners.now / 2) c.loop-k.invariant.1 (omega arith) in
    let k : nat_abs c.ring-w.result ≤ e - c.loop-k.a = rw (c.ring-w.ensures, c.part.ensures) (part_small c.args.p c.args.self.outline.ends.now c.args.self.outline.corners.now c.loop-k.a e) in
    let s = sum c.loop-k.w-bits c.ring-w.result e (omega (arith, t.from)) (omega (arith, t.to)) in
    (s.small, t.rise, rw (s.is, c.ring-w.ensures, c.part.ensures) (sym (rings_next c.args.p c.args.self.outline.ends.now c.args.self.outline.corners.now (to_z w64 c.loop-k.w-bits) c.loop-k.a c.loop-k.k (omega arith)) ∙ c.loop-k.invariant.2), start_next c.args.self.outline.ends.now c.loop-k.k)

pub returns : goal.returns
returns c = sym (rings_end c.args.p c.args.self.outline.ends.now c.args.self.outline.corners.now (to_z w64 c.loop-k.w-bits) c.loop-k.a c.loop-k.k (omega arith)) ∙ c.loop-k.invariant.2
