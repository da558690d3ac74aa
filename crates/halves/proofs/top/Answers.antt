-- `top` meets its contract: each answer follows from the tests on the way to it. Assumes nothing.
use lib.Ieee.{of_bits}
use mathlib.Core.Path.{refl, sym, ◌∙◌}
use native.Mathlib.Omega.{arith}
use lib.ListN.{length}
use borrow.Author.Tests.{ne_eqb}
use Rattle.geom.specs.Sewing.{flat}
use Rattle.satinrules.specs.Calls.{rails_of}
use Rattle.satinrules.specs.CallLaws.{no_top}
use Rattle.refusal.specs.AnswerLaws.{number_some}
use Rattle.std.proofs.lemmas.Result.{err_from_is_err_and}
use Rattle.satin.specs.PassedLaws.{rails_small, few_any, worked_kept, sound}
use Rattle.halves.specs.Answers.{top_sewn, top_output, top_work}
use Rattle.halves.specs.CallLaws.{rails_over, setting_over, few_over, on_over}
use borrow.Author.Rules.{rules}
use Rattle.halves.proofs.top.Goals as goal

pub returns-in_err-accepted : goal.returns-in_err-accepted
unfolding top_output top_sewn top_work
returns-in_err-accepted c =
    let a = c.args in
    let e = c.in_err-accepted.ensures in
    let n = number_some c.in_err-accepted.field-0.0 in
    let p = err_from_is_err_and c.from_residual.result c.from_residual.ensures.1 in
    rw (p.1, p.2, rails_over a.a.now a.b.now a.sync.now a.g (length a.work.now) (length a.out.now) a.far (sym e) n, ne_eqb _ 0 n) (refl, refl, sym (worked_kept _ a.work.now n (omega (arith, e, rails_small a.a.now a.b.now a.sync.now))))

pub returns-in_err-unless : goal.returns-in_err-unless
unfolding top_output top_sewn top_work
returns-in_err-unless c =
    let a = c.args in
    let u = c.in_err-unless.ensures in
    let p = err_from_is_err_and c.from_residual-in_err-unless.result c.from_residual-in_err-unless.ensures.1 in
    rw (p.1, p.2, u.0, setting_over a.a.now a.b.now a.sync.now a.g (length a.work.now) (length a.out.now) a.far c.in_ok-accepted.ensures (sym c.good_satin.ensures ∙ u.1)) (refl, refl, refl)

pub returns-then-few_corners : goal.returns-then-few_corners
unfolding flat top_output top_sewn top_work of_bits
returns-then-few_corners c =
    let a = c.args in
    let r = c.in_ok-accepted.ensures in
    let s = sym c.good_satin.ensures ∙ c.in_ok-unless.ensures in
    let f = sym (few_any a.a.now a.b.now a.sync.now) ∙ sym c.few_corners.ensures ∙ c.if-few_corners.true in
    rw (few_over a.a.now a.b.now a.sync.now a.g (length a.work.now) (length a.out.now) a.far r s f, no_top (rails_of a.a.now a.b.now a.sync.now) a.g f a.far) (refl, refl, (c.fill.ensures.after (λ y h. search rules)))

pub sewn_top-requires : goal.sewn_top-requires
sewn_top-requires c =
    let a = c.args in
    let r = c.in_ok-accepted.ensures in
    let f = sym (few_any a.a.now a.b.now a.sync.now) ∙ sym c.few_corners.ensures ∙ c.if-few_corners.false in
    (sound a.a.now a.b.now a.sync.now r f, f)

pub returns : goal.returns
unfolding top_output top_sewn top_work
returns c =
    let a = c.args in
    let r = c.in_ok-accepted.ensures in
    let s = sym c.good_satin.ensures ∙ c.in_ok-unless.ensures in
    rw (on_over a.a.now a.b.now a.sync.now a.g (length a.work.now) (length a.out.now) a.far r s) c.sewn_top.ensures
