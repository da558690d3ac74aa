-- The table's 1 to 5, in its order. Assumes nothing.
use Rattle.std.proofs.Common.{arith, refl, sym, ◌∙◌}
use Rattle.geom.specs.Outline.{rings}
use Rattle.rules.specs.Fill.{edges, gate}
use Rattle.finding.specs.Stages.{Gated}
use Rattle.finding.specs.SizeLaws.{rows_many, rows_within}
use Rattle.finding.proofs.gate.gate.Goals as goal

pub returns-then-w-gt-MOST_ROWS : goal.returns-then-w-gt-MOST_ROWS
unfolding Gated gate
returns-then-w-gt-MOST_ROWS c =
    let a = c.args in
    let es = edges a.g (rings a.corners.now a.ends.now) in
    let w = rw (c.in_ok-o.ensures.0, c.in_ok-o.ensures.1) at c.rows_of-w.ensures in
    rw (c.in_ok-o.ensures.2, sym c.good_numbers.ensures ∙ c.if-not-good_numbers.false, sym c.good_settings.ensures ∙ c.if-not-good_settings.false, sym c.good_turn.ensures ∙ c.if-not-good_turn.false, rows_many a.g es w c.if-w-gt-MOST_ROWS.true) (refl, omega arith, omega arith)

pub returns : goal.returns
unfolding Gated gate
returns c =
    let a = c.args in
    let es = edges a.g (rings a.corners.now a.ends.now) in
    let w = rw (c.in_ok-o.ensures.0, c.in_ok-o.ensures.1) at c.rows_of-w.ensures in
    rw (c.in_ok-o.ensures.2, sym c.good_numbers.ensures ∙ c.if-not-good_numbers.false, sym c.good_settings.ensures ∙ c.if-not-good_settings.false, sym c.good_turn.ensures ∙ c.if-not-good_turn.false, rows_within a.g es w c.if-w-gt-MOST_ROWS.false) (refl, w)
