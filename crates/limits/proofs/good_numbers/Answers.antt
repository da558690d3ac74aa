use mathlib.Core.Path.{sym, ◌∙◌}
use Rattle.limits.specs.LimitsLaws.{numbers_good, numbers_bad, numbers_end}
use borrow.Author.Rules.{rules}
use Rattle.limits.proofs.good_numbers.Goals as goal
use Rattle.limits.proofs.good_numbers.Goals.{then-not-good_number, else-not-good_number}

pub loop-x-preserved : goal.loop-x-preserved
loop-x-preserved c =
    let l = c.loop-x in (elim c.if-not-good_number.branch [
      | then-not-good_number w ↦ rw w.ok-is (numbers_bad l.ok c.args.l.now l.x-index (search rules) (sym c.good_number.ensures ∙ w.if-not-good_number.true) ∙ l.invariant)
      | else-not-good_number w ↦ rw w.ok-is (numbers_good l.ok c.args.l.now l.x-index (search rules) (sym c.good_number.ensures ∙ w.if-not-good_number.false) ∙ l.invariant)
    ])

pub returns : goal.returns
returns c = numbers_end c.loop-x.ok c.args.l.now c.loop-x.x-index (search rules) ∙ c.loop-x.invariant
