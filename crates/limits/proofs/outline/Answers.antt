use Rattle.std.proofs.Common.{sym, ◌∙◌}
use Rattle.limits.specs.LimitsLaws.{outline_layout}
use Rattle.limits.proofs.outline.Goals as goal

pub invariant_of-result : goal.invariant_of-result
invariant_of-result c = record { laid = outline_layout c.args.corners.now c.args.ends.now (sym c.good_outline.ensures ∙ c.if-good_outline.true) }
