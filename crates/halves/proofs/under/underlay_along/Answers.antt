-- `underlay_along` meets its contract: which of SIZE, WORK, ROOM and DONE it is. Assumes nothing.
use Rattle.pairing.specs.StoreLaws.{in_step}
use lib.Ieee.{of_bits}
use mathlib.Core.Path.{refl, sym, ap, ◌∙◌}
use lib.ListN.{length, length-replicate}
use Rattle.geom.specs.Outline.{points}
use Rattle.satinrules.specs.Column.{underlay}
use Rattle.satinrules.specs.Calls.{rails_of, underlay_steps, need}
use Rattle.satin.specs.PassedLaws.{need_room}
use Rattle.column.specs.Sized.{most_under}
use Rattle.column.specs.SizedLaws.{sized_is, underlay_small, underlay_most}
use Rattle.column.specs.HalvesLaws.{under_ready, worked_fitted}
use Rattle.halves.specs.SewingLaws.{underlay_size, underlay_work_lem, underlay_fitted}
use borrow.Author.Rules.{rules}
use Rattle.halves.proofs.under.underlay_along.Goals as goal

pub underlay_sized-requires : goal.underlay_sized-requires
underlay_sized-requires c = c.total-length.ensures

pub returns-then-not-underlay_sized : goal.returns-then-not-underlay_sized
returns-then-not-underlay_sized c =
    let a = c.args in
    let s = sym (sized_is a.rails.a.now a.rails.b.now a.rails.course.sync.now a.g (in_step c.requires.1) (underlay_steps a.g)) ∙ sym c.underlay_sized.ensures ∙ c.if-not-underlay_sized.true in
    rw (underlay_size a.rails.a.now a.rails.b.now a.rails.course.sync.now a.g (length a.work.now) (length a.out.now) c.requires.0 s) (refl, refl, refl)

pub underlay_passes-u-requires : goal.underlay_passes-u-requires
underlay_passes-u-requires c = (c.total-length.ensures, sym c.underlay_sized.ensures ∙ c.if-not-underlay_sized.false)

pub need-requires : goal.need-requires
need-requires c =
    let a = c.args in
    rw (c.underlay_most.ensures, c.underlay_passes-u.ensures) (underlay_small c.args.rails.course.ends (points a.rails.course.sync.now) a.g (sym c.underlay_sized.ensures ∙ c.if-not-underlay_sized.false))

pub shape_of-work-then-work-need : goal.shape_of-work-then-work-need
shape_of-work-then-work-need c = ap length (c.fill.ensures.after (λ y h. search rules)) ∙ length-replicate _ _

pub returns-then-work-need : goal.returns-then-work-need
unfolding of_bits
returns-then-work-need c =
    let a = c.args in
    let ok = sym c.underlay_sized.ensures ∙ c.if-not-underlay_sized.false in
    let k = c.need.ensures ∙ ap (need (rails_of a.rails.a.now a.rails.b.now a.rails.course.sync.now)) (c.underlay_most.ensures ∙ sym (underlay_most a.rails.a.now a.rails.b.now a.rails.course.sync.now a.g (in_step c.requires.1) c.requires.0 c.underlay_passes-u.ensures ok)) in
    rw (underlay_work_lem a.rails.a.now a.rails.b.now a.rails.course.sync.now a.g (length a.work.now) (length a.out.now) c.requires.0 (sym (sized_is a.rails.a.now a.rails.b.now a.rails.course.sync.now a.g (in_step c.requires.1) (underlay_steps a.g)) ∙ ok) (rw k at c.if-work-need.true)) (refl, refl, (c.fill.ensures.after (λ y h. search rules)))

pub sew_underlay-r-requires : goal.sew_underlay-r-requires
sew_underlay-r-requires c =
    let a = c.args in
    let ok = sym c.underlay_sized.ensures ∙ c.if-not-underlay_sized.false in
    let k = c.need.ensures ∙ ap (need (rails_of a.rails.a.now a.rails.b.now a.rails.course.sync.now)) c.underlay_most.ensures in
    (under_ready a.rails.a.now a.rails.b.now a.rails.course.sync.now a.g (in_step c.requires.1) c.requires.0 c.underlay_passes-u.ensures ok (length a.work.now) (need_room a.rails.a.now a.rails.b.now a.rails.course.sync.now (most_under c.underlay_passes-u.result) (length a.work.now) (rw k at c.if-work-need.false)))

pub shape_of-work : goal.shape_of-work
shape_of-work c = ap length (c.fill-2.ensures.after (λ y h. search rules)) ∙ length-replicate _ _ ∙ c.sew_underlay-r.ensures.2

pub returns : goal.returns
unfolding of_bits
returns c =
    let a = c.args in
    let ok = sym c.underlay_sized.ensures ∙ c.if-not-underlay_sized.false in
    let k = c.need.ensures ∙ ap (need (rails_of a.rails.a.now a.rails.b.now a.rails.course.sync.now)) (c.underlay_most.ensures ∙ sym (underlay_most a.rails.a.now a.rails.b.now a.rails.course.sync.now a.g (in_step c.requires.1) c.requires.0 c.underlay_passes-u.ensures ok)) in
    let h = c.sew_underlay-r.ensures in
    rw (underlay_fitted a.rails.a.now a.rails.b.now a.rails.course.sync.now a.g (length a.work.now) (length a.out.now) c.requires.0 (sym (sized_is a.rails.a.now a.rails.b.now a.rails.course.sync.now a.g (in_step c.requires.1) (underlay_steps a.g)) ∙ ok) (rw k at c.if-work-need.false))
    (h.0, h.1, (rw h.2 at (c.fill-2.ensures.after (λ y h. search rules))) ∙ sym (worked_fitted (underlay (rails_of a.rails.a.now a.rails.b.now a.rails.course.sync.now) a.g) (length a.out.now) a.work.now))
