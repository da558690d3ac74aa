-- `top_along` meets its contract: which of SIZE, WORK, ROOM and DONE it is, and the top goes over the pairs that were laid. Assumes nothing.
use Rattle.pairing.specs.StoreLaws.{in_step}
use lib.Ieee.{of_bits}
use mathlib.Core.Path.{refl, sym, ap, ◌∙◌}
use Prim.Native.Nat.{◌≤◌}
use native.Mathlib.Omega.{arith}
use lib.ListN.{length, length-replicate}
use Rattle.geom.specs.Outline.{points}
use Rattle.satinrules.specs.Column.{top}
use Rattle.satinrules.specs.Calls.{rails_of, top_steps, need}
use Rattle.pairing.specs.Walk.{pass_of}
use Rattle.pairing.specs.WalkLaws.{pass_by}
use Rattle.satin.specs.PassedLaws.{need_room}
use Rattle.satin.specs.UnderlayLaws.{fit_some}
use Rattle.column.specs.SizedLaws.{sized_is, top_sized, top_small, top_fit, top_most}
use Rattle.column.specs.HalvesLaws.{worked_fitted}
use Rattle.halves.specs.SewingLaws.{top_size, top_work_lem, top_fitted, over_is}
use borrow.Author.Rules.{rules}
use Rattle.halves.proofs.over.top_along.Goals as goal

pub top_sized-requires : goal.top_sized-requires
top_sized-requires c = c.total-length.ensures

pub returns-then-not-top_sized : goal.returns-then-not-top_sized
returns-then-not-top_sized c =
    let a = c.args in
    let s = sym (sized_is a.rails.a.now a.rails.b.now a.rails.course.sync.now a.g (in_step c.requires.1) (top_steps a.g)) ∙ sym c.top_sized.ensures ∙ c.if-not-top_sized.true in
    rw (top_size a.rails.a.now a.rails.b.now a.rails.course.sync.now a.g (length a.work.now) (length a.out.now) c.requires.0 a.far s) (refl, refl, refl)

pub lay_pairs-t-requires : goal.lay_pairs-t-requires
lay_pairs-t-requires c =
    let a = c.args in
    let ok = sym c.top_sized.ensures ∙ c.if-not-top_sized.false in
    (rw (c.pass_along-pass.ensures ∙ pass_by c.args.rails.course.ends (points a.rails.course.sync.now) _ c.total-length.ensures, c.spaced.ensures) (omega (arith, top_sized c.args.rails.course.ends (points a.rails.course.sync.now) a.g ok)))

pub need-requires : goal.need-requires
need-requires c =
    let a = c.args in
    let ok = sym c.top_sized.ensures ∙ c.if-not-top_sized.false in
    rw (c.lay_pairs-t.ensures.0, c.pass_along-pass.ensures ∙ pass_by c.args.rails.course.ends (points a.rails.course.sync.now) _ c.total-length.ensures, c.spaced.ensures) (top_small c.args.rails.course.ends (points a.rails.course.sync.now) a.g ok)

pub shape_of-work-then-work-need : goal.shape_of-work-then-work-need
shape_of-work-then-work-need c = ap length (c.fill.ensures.after (λ y h. search rules)) ∙ length-replicate _ _ ∙ c.lay_pairs-t.ensures.1

pub returns-then-work-need : goal.returns-then-work-need
unfolding of_bits
returns-then-work-need c =
    let a = c.args in
    let ok = sym c.top_sized.ensures ∙ c.if-not-top_sized.false in
    let asked = c.pass_along-pass.ensures ∙ pass_by c.args.rails.course.ends (points a.rails.course.sync.now) _ c.total-length.ensures ∙ ap (pass_of c.args.rails.course.ends (points a.rails.course.sync.now)) c.spaced.ensures in
    let l = c.lay_pairs-t.ensures in
    let n = top_most a.rails.a.now a.rails.b.now a.rails.course.sync.now a.g (in_step c.requires.1) c.requires.0 asked l.0 ok in
    let k = c.need.ensures ∙ ap (need (rails_of a.rails.a.now a.rails.b.now a.rails.course.sync.now)) (sym n) in
    rw (top_work_lem a.rails.a.now a.rails.b.now a.rails.course.sync.now a.g (length a.work.now) (length a.out.now) c.requires.0 a.far (sym (sized_is a.rails.a.now a.rails.b.now a.rails.course.sync.now a.g (in_step c.requires.1) (top_steps a.g)) ∙ ok) (rw (k, l.1) at c.if-work-need.true)) (refl, refl, rw l.1 at (c.fill.ensures.after (λ y h. search rules)))

pub sew_top-r-requires : goal.sew_top-r-requires
sew_top-r-requires c =
    let a = c.args in
    let ok = sym c.top_sized.ensures ∙ c.if-not-top_sized.false in
    let asked = c.pass_along-pass.ensures ∙ pass_by c.args.rails.course.ends (points a.rails.course.sync.now) _ c.total-length.ensures ∙ ap (pass_of c.args.rails.course.ends (points a.rails.course.sync.now)) c.spaced.ensures in
    let l = c.lay_pairs-t.ensures in
    let f = top_fit a.rails.a.now a.rails.b.now a.rails.course.sync.now a.g (in_step c.requires.1) c.requires.0 asked l.0 ok in
    let small : c.lay_pairs-t.result ≤ 65537 = rw (l.0, asked) (top_small c.args.rails.course.ends (points a.rails.course.sync.now) a.g ok) in
    (fit_some f, small, need_room a.rails.a.now a.rails.b.now a.rails.course.sync.now _ _ (rw c.need.ensures at c.if-work-need.false))

pub shape_of-work : goal.shape_of-work
shape_of-work c = ap length (c.fill-2.ensures.after (λ y h. search rules)) ∙ length-replicate _ _ ∙ c.sew_top-r.ensures.2 ∙ c.lay_pairs-t.ensures.1

pub returns : goal.returns
unfolding of_bits
returns c =
    let a = c.args in
    let ok = sym c.top_sized.ensures ∙ c.if-not-top_sized.false in
    let asked = c.pass_along-pass.ensures ∙ pass_by c.args.rails.course.ends (points a.rails.course.sync.now) _ c.total-length.ensures ∙ ap (pass_of c.args.rails.course.ends (points a.rails.course.sync.now)) c.spaced.ensures in
    let l = c.lay_pairs-t.ensures in
    let f = top_fit a.rails.a.now a.rails.b.now a.rails.course.sync.now a.g (in_step c.requires.1) c.requires.0 asked l.0 ok in
    let n = top_most a.rails.a.now a.rails.b.now a.rails.course.sync.now a.g (in_step c.requires.1) c.requires.0 asked l.0 ok in
    let k = c.need.ensures ∙ ap (need (rails_of a.rails.a.now a.rails.b.now a.rails.course.sync.now)) (sym n) in
    let room = need_room a.rails.a.now a.rails.b.now a.rails.course.sync.now _ _ (rw c.need.ensures at c.if-work-need.false) in
    let h = rw (over_is a.g f a.far c.lay_pairs-t.new.w (l.2 (omega (arith, room, l.0, l.1)))) at c.sew_top-r.ensures in
    rw (top_fitted a.rails.a.now a.rails.b.now a.rails.course.sync.now a.g (length a.work.now) (length a.out.now) c.requires.0 a.far (sym (sized_is a.rails.a.now a.rails.b.now a.rails.course.sync.now a.g (in_step c.requires.1) (top_steps a.g)) ∙ ok) (rw (k, l.1) at c.if-work-need.false))
    (h.0, h.1, (rw (h.2, l.1) at (c.fill-2.ensures.after (λ y h. search rules))) ∙ sym (worked_fitted (top a.far (rails_of a.rails.a.now a.rails.b.now a.rails.course.sync.now) a.g) (length a.out.now) a.work.now))
