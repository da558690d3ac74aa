-- An accepted outline is laid out. Assumes nothing.
use Rattle.rules.specs.Accepted.{laid_out}
use Rattle.finding.specs.Stages.{Gated}
use Rattle.finding.specs.FindLaws.{outline_of}
use Rattle.finding.proofs.gate.plan.Goals as goal

pub invariant_of-result : goal.invariant_of-result
unfolding Gated
invariant_of-result c = let a = c.args in record { laid = (outline_of a.corners.now a.ends.now (laid_out a.corners.now a.ends.now a.g a.stagger c.in_ok-rows.ensures.0)).layout }
