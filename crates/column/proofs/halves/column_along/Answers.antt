-- `column_along` meets its contract: which of SIZE, WORK, ROOM and DONE it is. Assumes nothing.
use Rattle.pairing.specs.StoreLaws.{in_step}
use borrow.Author.Rules.{rules}
use lib.Ieee.{of_bits}
use mathlib.Core.Path.{refl, sym, ap, ◌∙◌}
use native.Mathlib.Omega.{arith}
use lib.ListN.{length, length-replicate}
use Rattle.geom.specs.Outline.{points}
use Rattle.satinrules.specs.Column.{column}
use Rattle.satinrules.specs.Calls.{rails_of, pass_steps, need}
use Rattle.column.specs.SizedLaws.{sized_is, most_is, most_small}
use Rattle.column.specs.HalvesLaws.{ready, ready_same, column_size, column_work_lem, column_fitted, worked_fitted}
use Rattle.column.proofs.halves.column_along.Goals as goal

pub returns-then-not-column_sized : goal.returns-then-not-column_sized
returns-then-not-column_sized c =
    let a = c.args in
    let s = sym (sized_is a.rails.a.now a.rails.b.now a.rails.course.sync.now a.g (in_step c.requires.1) (pass_steps a.g)) ∙ sym c.column_sized.ensures ∙ c.if-not-column_sized.true in
    rw (column_size a.rails.a.now a.rails.b.now a.rails.course.sync.now a.g (length a.work.now) (length a.out.now) c.requires.0 s) (refl, refl, refl)

pub passes_of-p-requires : goal.passes_of-p-requires
passes_of-p-requires c = (sym c.column_sized.ensures ∙ c.if-not-column_sized.false)

pub need-requires : goal.need-requires
need-requires c =
    let a = c.args in
    let ok = sym c.column_sized.ensures ∙ c.if-not-column_sized.false in
    rw (c.column_most.ensures, c.passes_of-p.ensures.0) (most_small c.args.rails.course.ends (points a.rails.course.sync.now) a.g ok)

pub shape_of-work-then-work-need : goal.shape_of-work-then-work-need
shape_of-work-then-work-need c = ap length (c.fill.ensures.after (λ y h. search rules)) ∙ length-replicate _ _ ∙ c.passes_of-p.ensures.1

pub returns-then-work-need : goal.returns-then-work-need
unfolding of_bits
returns-then-work-need c =
    let a = c.args in
    let ok = sym c.column_sized.ensures ∙ c.if-not-column_sized.false in
    let sizes = sym (sized_is a.rails.a.now a.rails.b.now a.rails.course.sync.now a.g (in_step c.requires.1) (pass_steps a.g)) ∙ ok in
    let most = most_is a.rails.a.now a.rails.b.now a.rails.course.sync.now a.g (in_step c.requires.1) c.requires.0 c.passes_of-p.ensures.0 ok in
    let k = c.need.ensures ∙ ap (need (rails_of a.rails.a.now a.rails.b.now a.rails.course.sync.now)) (c.column_most.ensures ∙ sym most) in
    rw (column_work_lem a.rails.a.now a.rails.b.now a.rails.course.sync.now a.g (length a.work.now) (length a.out.now) c.requires.0 sizes (rw (k, c.passes_of-p.ensures.1) at c.if-work-need.true)) (refl, refl, rw c.passes_of-p.ensures.1 at (c.fill.ensures.after (λ y h. search rules)))

pub sew_halves-r-requires : goal.sew_halves-r-requires
sew_halves-r-requires c =
    let a = c.args in
    let ok = sym c.column_sized.ensures ∙ c.if-not-column_sized.false in
    let k = c.need.ensures ∙ ap (need (rails_of a.rails.a.now a.rails.b.now a.rails.course.sync.now)) c.column_most.ensures in
    let w = ready a.rails.a.now a.rails.b.now a.rails.course.sync.now a.g (in_step c.requires.1) c.requires.0 c.passes_of-p.ensures.0 ok (length a.work.now) (rw (k, c.passes_of-p.ensures.1) at c.if-work-need.false) in
    (ready_same w c.passes_of-p.ensures.1, c.passes_of-p.ensures.2 (omega (arith, w.room_t)))

pub shape_of-work : goal.shape_of-work
shape_of-work c = ap length (c.fill-2.ensures.after (λ y h. search rules)) ∙ length-replicate _ _ ∙ c.sew_halves-r.ensures.2 ∙ c.passes_of-p.ensures.1

pub returns : goal.returns
unfolding of_bits
returns c =
    let a = c.args in
    let ok = sym c.column_sized.ensures ∙ c.if-not-column_sized.false in
    let sizes = sym (sized_is a.rails.a.now a.rails.b.now a.rails.course.sync.now a.g (in_step c.requires.1) (pass_steps a.g)) ∙ ok in
    let most = most_is a.rails.a.now a.rails.b.now a.rails.course.sync.now a.g (in_step c.requires.1) c.requires.0 c.passes_of-p.ensures.0 ok in
    let r = rails_of a.rails.a.now a.rails.b.now a.rails.course.sync.now in
    let h = c.sew_halves-r.ensures in
    let k = c.need.ensures ∙ ap (need r) (c.column_most.ensures ∙ sym most) in
    rw (column_fitted a.rails.a.now a.rails.b.now a.rails.course.sync.now a.g (length a.work.now) (length a.out.now) c.requires.0 sizes (rw (k, c.passes_of-p.ensures.1) at c.if-work-need.false))
    (h.0, h.1, (rw (h.2, c.passes_of-p.ensures.1) at (c.fill-2.ensures.after (λ y h. search rules))) ∙ sym (worked_fitted (column r a.g) (length a.out.now) a.work.now))
