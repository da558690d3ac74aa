-- The squared length of the step. Assumes nothing.
use Rattle.sewing.specs.Sewing.{cuts}
use Rattle.sewing.proofs.stitch.cuts_to.Goals as goal

pub returns : goal.returns
unfolding cuts
returns c = c.cuts_for.ensures
