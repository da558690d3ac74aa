-- `bounds` meets its contract: the bounds of the corners are those of the rings. Assumes nothing.
use mathlib.Core.Path.{sym, ap, ◌∙◌}
use Rattle.refusal.specs.Refusal.{done}
use Rattle.limits.specs.LimitsLaws.{outline_layout}
use Rattle.patterns_rules.specs.Answers.{bounds_answer}
use Rattle.cross.specs.BoundLaws.{bounds_are}
use Rattle.patterns.proofs.bounds.Goals as goal

pub returns : goal.returns
unfolding bounds_answer
returns c =
    let a = c.args in
    let o = c.in_ok-o.ensures in
    let n = rw o.0 at (sym c.good_numbers.ensures ∙ c.in_ok-unless.ensures) in
    let b = rw o.0 at c.bounds.ensures in
    rw (o.2, n) (ap (λ b. done b) (b ∙ bounds_are a.corners.now a.ends.now (outline_layout a.corners.now a.ends.now o.2)))
