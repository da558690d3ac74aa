-- `salvage` meets its contract: LAYOUT, or the marks of all corners and what is written by them. Assumes nothing.
use mathlib.Core.Path.{sym, ap, ◌∙◌}
use Prim.Native.Nat.{◌/◌}
use native.Mathlib.Omega.{arith}
use lib.ListN.{length, length-take, length-append}
use lib.Seq.{length-take-le}
use Rattle.seqs.specs.Parts.{head_is}
use Rattle.limits.specs.LimitsLaws.{outline_layout}
use Rattle.salvage.specs.Salvage.{salvage_answer, salvage_outcome}
use Rattle.salvage.specs.OutlineLaws.{few_corners, outline_marks}
use Rattle.salvage.proofs.salvage.Goals as goal

pub slice_bounds-marks-end : goal.slice_bounds-marks-end
slice_bounds-marks-end c = omega (arith, few_corners c.args.corners.now c.args.ends.now (c.in_ok-o.ensures.2))

pub slice_bounds-mark_outline-end : goal.slice_bounds-mark_outline-end
slice_bounds-mark_outline-end c = sym (length-take-le _ _ (omega (arith, few_corners c.args.corners.now c.args.ends.now (c.in_ok-o.ensures.2))))

pub mark_outline-requires : goal.mark_outline-requires
mark_outline-requires c =
    let g = c.in_ok-o.ensures.2 in
    let l = outline_layout c.args.corners.now c.args.ends.now g in
    rw c.in_ok-o.ensures.0 (simp length-take (omega (arith, l.even, few_corners c.args.corners.now c.args.ends.now g)))

pub slice_bounds-marks-end-2 : goal.slice_bounds-marks-end-2
slice_bounds-marks-end-2 c =
    let l = outline_layout c.args.corners.now c.args.ends.now (c.in_ok-o.ensures.2) in
    simp length-append (omega (arith, ap length (rw (c.in_ok-o.ensures.0, c.in_ok-o.ensures.1) at c.mark_outline.ensures), outline_marks c.args.corners.now c.args.ends.now l.rise))

pub slice_bounds-written-end : goal.slice_bounds-written-end
slice_bounds-written-end c =
    let l = outline_layout c.args.corners.now c.args.ends.now (c.in_ok-o.ensures.2) in
    sym (length-take-le _ _ (simp length-append (omega (arith, ap length (rw (c.in_ok-o.ensures.0, c.in_ok-o.ensures.1) at c.mark_outline.ensures), outline_marks c.args.corners.now c.args.ends.now l.rise))))

pub written-requires : goal.written-requires
written-requires c =
    let g = c.in_ok-o.ensures.2 in
    let l = outline_layout c.args.corners.now c.args.ends.now g in
    rw (c.in_ok-o.ensures.0, c.in_ok-o.ensures.1) (g, head_is _ _ (length c.args.corners.now / 2) (omega (arith, few_corners c.args.corners.now c.args.ends.now g)) (ap length (rw (c.in_ok-o.ensures.0, c.in_ok-o.ensures.1) at c.mark_outline.ensures) ∙ outline_marks c.args.corners.now c.args.ends.now l.rise) ∙ rw (c.in_ok-o.ensures.0, c.in_ok-o.ensures.1) at c.mark_outline.ensures)

pub returns : goal.returns
unfolding salvage_answer salvage_outcome
returns c = rw c.in_ok-o.ensures.2 (rw (c.in_ok-o.ensures.0, c.in_ok-o.ensures.1) at c.written.ensures)
