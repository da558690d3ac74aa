-- `pairs` meets its contract: each answer follows from the tests on the way to it. Assumes nothing.
use mathlib.Core.Path.{refl, sym, ap, ◌∙◌}
use native.Mathlib.Omega.{arith}
use lib.ListN.{length, length-replicate}
use borrow.Author.Tests.{ne_eqb}
use lib.Ieee.{of_bits}
use Rattle.geom.specs.Sewing.{flat}
use Rattle.satinrules.specs.Calls.{pairs_sewn, pairs_output, pairs_work}
use Rattle.refusal.specs.AnswerLaws.{number_some}
use Rattle.std.proofs.lemmas.Result.{err_from_is_err_and}
use Rattle.satin.specs.PassedLaws.{rails_small, refused_rails, refused_step, passed_few, passed_on, few_any, few_none, worked_kept, sound}
use borrow.Author.Rules.{rules}
use Rattle.satin.proofs.pairs.Goals as goal

pub returns-in_err-accepted : goal.returns-in_err-accepted
unfolding pairs_output pairs_sewn pairs_work
returns-in_err-accepted c =
    let a = c.args in
    let e = c.in_err-accepted.ensures in
    let n = number_some c.in_err-accepted.field-0.0 in
    let p = err_from_is_err_and c.from_residual.result c.from_residual.ensures.1 in
    rw (p.1, p.2, refused_rails a.a.now a.b.now a.sync.now a.step (length a.work.now) (length a.out.now) (sym e) n, ne_eqb _ 0 n) (refl, refl, sym (worked_kept _ a.work.now n (omega (arith, e, rails_small a.a.now a.b.now a.sync.now))))

pub returns-in_err-unless : goal.returns-in_err-unless
unfolding pairs_output pairs_sewn pairs_work
returns-in_err-unless c =
    let a = c.args in
    let u = c.in_err-unless.ensures in
    let p = err_from_is_err_and c.from_residual-in_err-unless.result c.from_residual-in_err-unless.ensures.1 in
    rw (p.1, p.2, u.0, refused_step a.a.now a.b.now a.sync.now a.step (length a.work.now) (length a.out.now) c.in_ok-accepted.ensures (sym c.good_step.ensures ∙ u.1)) (refl, refl, refl)

pub shape_of-work-then-few_corners : goal.shape_of-work-then-few_corners
shape_of-work-then-few_corners c = ap length (c.fill.ensures.after (λ y h. search rules)) ∙ length-replicate _ _

pub returns-then-few_corners : goal.returns-then-few_corners
unfolding flat pairs_output pairs_sewn pairs_work of_bits
returns-then-few_corners c =
    let a = c.args in
    let r = c.in_ok-accepted.ensures in
    let s = sym c.good_step.ensures ∙ c.in_ok-unless.ensures in
    let f = sym (few_any a.a.now a.b.now a.sync.now) ∙ sym c.few_corners.ensures ∙ c.if-few_corners.true in
    rw (passed_few a.a.now a.b.now a.sync.now a.step (length a.work.now) (length a.out.now) r s f, few_none a.a.now a.b.now a.sync.now a.step f) (refl, refl, (c.fill.ensures.after (λ y h. search rules)))

pub sewn_pairs-requires : goal.sewn_pairs-requires
sewn_pairs-requires c =
    let a = c.args in
    let r = c.in_ok-accepted.ensures in
    let f = sym (few_any a.a.now a.b.now a.sync.now) ∙ sym c.few_corners.ensures ∙ c.if-few_corners.false in
    (sound a.a.now a.b.now a.sync.now r f, f)

pub returns : goal.returns
unfolding pairs_output pairs_sewn pairs_work
returns c =
    let a = c.args in
    let r = c.in_ok-accepted.ensures in
    let s = sym c.good_step.ensures ∙ c.in_ok-unless.ensures in
    rw (passed_on a.a.now a.b.now a.sync.now a.step (length a.work.now) (length a.out.now) r s) c.sewn_pairs.ensures
