use mathlib.Core.Path.{sym, ap, ◌∙◌}
use Rattle.refusal.specs.Sewn.{Sewn, Written}
use Rattle.refusal.specs.AnswerLaws.{written_count, written_answer}
use Rattle.exports_other.proofs.machine.beahcerot_dst.Goals as goal

pub returns : goal.returns
returns c =
    let r = c.dst.result in
    let e = c.dst.ensures.0 in
    (c.store_count.ensures.0 ∙ sym (written_answer r) ∙ ap (λ (w : Written). w.answer) e, c.store_count.ensures.1 ∙ sym (written_count r) ∙ ap (λ (w : Written). w.bytes) e, c.dst.ensures.1)
