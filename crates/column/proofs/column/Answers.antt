-- `column` meets its contract: each answer follows from the tests on the way to it. Assumes nothing.
use borrow.Author.Rules.{rules}
use mathlib.Core.Bool.{true}
use mathlib.Core.Path.{◌≡◌}
use Rattle.satinrules.specs.Settings.{good_satin}
use lib.Ieee.{of_bits}
use mathlib.Core.Path.{refl, sym, ◌∙◌}
use native.Mathlib.Omega.{arith}
use lib.ListN.{length}
use borrow.Author.Tests.{ne_eqb}
use Rattle.geom.specs.Sewing.{flat}
use Rattle.satinrules.specs.Calls.{rails_of, column_sewn, column_output, column_work}
use Rattle.refusal.specs.AnswerLaws.{number_some}
use Rattle.std.proofs.lemmas.Result.{err_from_is_err_and}
use Rattle.satin.specs.PassedLaws.{rails_small, few_any, worked_kept, sound}
use Rattle.satinrules.specs.CallLaws.{no_column}
use Rattle.column.specs.CallLaws.{refused_rails, refused_setting, passed_few, passed_on}
use Rattle.column.proofs.column.Goals as goal

pub returns-in_err-accepted : goal.returns-in_err-accepted
unfolding column_output column_sewn column_work
returns-in_err-accepted c =
    let a = c.args in
    let e = c.in_err-accepted.ensures in
    let n = number_some c.in_err-accepted.field-0.0 in
    let p = err_from_is_err_and c.from_residual.result c.from_residual.ensures.1 in
    rw (p.1, p.2, refused_rails a.a.now a.b.now a.sync.now a.g (length a.work.now) (length a.out.now) (sym e) n, ne_eqb _ 0 n) (refl, refl, sym (worked_kept _ a.work.now n (omega (arith, e, rails_small a.a.now a.b.now a.sync.now))))

pub returns-in_err-unless : goal.returns-in_err-unless
unfolding column_output column_sewn column_work
returns-in_err-unless c =
    let a = c.args in
    let u = c.in_err-unless.ensures in
    let p = err_from_is_err_and c.from_residual-in_err-unless.result c.from_residual-in_err-unless.ensures.1 in
    rw (p.1, p.2, u.0, refused_setting a.a.now a.b.now a.sync.now a.g (length a.work.now) (length a.out.now) c.in_ok-accepted.ensures (search rules)) (refl, refl, refl)

pub returns-then-few_corners : goal.returns-then-few_corners
unfolding column_output column_sewn column_work flat of_bits
returns-then-few_corners c =
    let a = c.args in
    let r = c.in_ok-accepted.ensures in
    let s : good_satin a.g ≡ true = search rules in
    let f = sym (few_any a.a.now a.b.now a.sync.now) ∙ sym c.few_corners.ensures ∙ c.if-few_corners.true in
    rw (passed_few a.a.now a.b.now a.sync.now a.g (length a.work.now) (length a.out.now) r s f, no_column (rails_of a.a.now a.b.now a.sync.now) a.g f) (refl, refl, (c.fill.ensures.after (λ y h. search rules)))

pub sewn_column-requires : goal.sewn_column-requires
sewn_column-requires c =
    let a = c.args in
    let r = c.in_ok-accepted.ensures in
    let f = sym (few_any a.a.now a.b.now a.sync.now) ∙ sym c.few_corners.ensures ∙ c.if-few_corners.false in
    (sound a.a.now a.b.now a.sync.now r f, f)

pub returns : goal.returns
unfolding column_output column_sewn column_work
returns c =
    let a = c.args in
    let r = c.in_ok-accepted.ensures in
    let s : good_satin a.g ≡ true = search rules in
    rw (passed_on a.a.now a.b.now a.sync.now a.g (length a.work.now) (length a.out.now) r s) c.sewn_column.ensures
