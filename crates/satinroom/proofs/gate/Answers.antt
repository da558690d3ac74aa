use Rattle.std.proofs.Common.{ℕ, sym, ap, ◌∙◌}
use Rattle.refusal.specs.Refusal.{SETTING, number, unless, ◌then◌}
use Rattle.std.proofs.lemmas.Result.{err_from_is_err_and, MatchResult-weaker}
use borrow.Author.Tests.{ne_eqb}
use Rattle.refusal.specs.AnswerLaws.{number_some}
use Rattle.satinroom.proofs.gate.Goals as goal

pub returns-in_err-accepted : goal.returns-in_err-accepted
returns-in_err-accepted c =
    let n = number_some c.in_err-accepted.field-0.0 in
    let p = err_from_is_err_and c.from_residual.result c.from_residual.ensures.1 in
    rw (p.1, p.2, c.in_err-accepted.ensures, ne_eqb _ 0 n)

pub returns : goal.returns
returns c =
    let r = ap (λ (n : ℕ). n then unless SETTING c.args.good) c.in_ok-accepted.ensures in
    MatchResult-weaker c.unless.result c.unless.ensures (λ _ g. r ∙ ap (unless SETTING) g) (λ f g. r ∙ ap (unless SETTING) g.1 ∙ sym (ap number g.0))
