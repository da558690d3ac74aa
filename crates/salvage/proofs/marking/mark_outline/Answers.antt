use mathlib.Core.Path.{◌≡◌, ◌∙◌}
use Prim.Native.Nat.{◌+◌, ◌-◌, ◌*◌, ◌/◌}
use native.Mathlib.Omega.{arith}
use lib.ListN.{length, take, drop, get_or, length-take, length-drop}
use Rattle.seqs.specs.Lists.{each}
use Rattle.seqs.specs.Front.{front_start, front_at, front_end}
use Rattle.seqs.specs.Reads.{whole}
use Rattle.geom.specs.Outline.{points, cut, rings}
use Rattle.geom.specs.OutlineLaws.{points_length, rising_turn}
use Rattle.salvage.specs.Ring.{ring_marks}
use Rattle.salvage.specs.Salvage.{marks as marks_of}
use Rattle.salvage.specs.RingLaws.{marks_length}
use Rattle.salvage.specs.OutlineLaws.{outline_marks}
use Rattle.salvage.proofs.Rings.{part_front, rings_turn, rings_end}
use borrow.Author.Rules.{rules}
use Rattle.salvage.proofs.marking.mark_outline.Goals as goal

pub loop-e-init : goal.loop-e-init
unfolding marks_of rings
loop-e-init c = (c.args.o.laid.rise, front_start _ _)

pub part-requires : goal.part-requires
part-requires c =
    let t = rising_turn c.loop-e.a c.args.o.ends.now c.loop-e.e-index (length c.args.o.corners.now / 2) c.loop-e.invariant.0 c.loop-e-test.true in
    (t.from, t.to)

pub slice_bounds-mark_ring-count : goal.slice_bounds-mark_ring-count
slice_bounds-mark_ring-count c =
    let t = rising_turn c.loop-e.a c.args.o.ends.now c.loop-e.e-index (length c.args.o.corners.now / 2) c.loop-e.invariant.0 c.loop-e-test.true in
    omega (arith, t, c.requires, c.loop-e.invariant.1.len)

pub slice_bounds-mark_ring-start : goal.slice_bounds-mark_ring-start
slice_bounds-mark_ring-start c =
    let t = rising_turn c.loop-e.a c.args.o.ends.now c.loop-e.e-index (length c.args.o.corners.now / 2) c.loop-e.invariant.0 c.loop-e-test.true in
    omega (arith, t, c.requires, c.loop-e.invariant.1.len)

pub slice_bounds-mark_ring-end : goal.slice_bounds-mark_ring-end
slice_bounds-mark_ring-end c =
    let t = rising_turn c.loop-e.a c.args.o.ends.now c.loop-e.e-index (length c.args.o.corners.now / 2) c.loop-e.invariant.0 c.loop-e-test.true in
    omega (arith, t, c.requires, c.loop-e.invariant.1.len)

pub mark_ring-requires : goal.mark_ring-requires
mark_ring-requires c =
    let t = rising_turn c.loop-e.a c.args.o.ends.now c.loop-e.e-index (length c.args.o.corners.now / 2) c.loop-e.invariant.0 c.loop-e-test.true in
    rw c.part.ensures (simp (length-take, length-drop) (omega (arith, t, c.requires, c.loop-e.invariant.1.len)))

pub loop-e-preserved : goal.loop-e-preserved
loop-e-preserved c =
    let l = c.loop-e in
    let cs = c.args.o.corners.now in
    let es = c.args.o.ends.now in
    let e = get_or es l.e-index 0 in
    let t = rising_turn l.a es l.e-index (length cs / 2) l.invariant.0 c.loop-e-test.true in
    let part = take (2 * e - 2 * l.a) (drop (2 * l.a) cs) in
    let n : length (ring_marks (points part)) ≡ e - l.a = marks_length (points part) ∙ points_length part ∙ simp (length-take, length-drop) (omega (arith, t, c.requires)) in
    (t.rise, part_front (ring_marks (points part)) (each ring_marks (cut e (drop (l.e-index + 1) es) (points cs))) _ l.a e (front_at (rings_turn l.a es l.e-index cs c.loop-e-test.true) l.invariant.1) (rw c.part.ensures at c.mark_ring.ensures) n t.from (omega (arith, t, c.requires, l.invariant.1.len)))

pub returns : goal.returns
returns c =
    let l = c.loop-e in
    let cs = c.args.o.corners.now in
    let es = c.args.o.ends.now in
    front_end (front_at (rings_end l.a es l.e-index cs (search rules)) l.invariant.1) ∙ whole (marks_of cs es) c.args.marks.now (outline_marks cs es c.args.o.laid.rise ∙ omega (arith, c.requires))
