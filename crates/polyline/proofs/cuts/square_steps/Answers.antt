-- `square_steps` meets its contract: none where it is skipped, otherwise by the root. Assumes nothing.
use mathlib.Core.Path.{sym, ◌∙◌}
use Rattle.polyline.specs.Cuts.{square_steps}
use Rattle.polyline.proofs.cuts.square_steps.Goals as goal

pub returns-then-skipped : goal.returns-then-skipped
unfolding square_steps
returns-then-skipped c = rw (sym c.skipped.ensures ∙ c.if-skipped.true)

pub returns : goal.returns
unfolding square_steps
returns c = rw (sym c.skipped.ensures ∙ c.if-skipped.false) c.root_steps.ensures
