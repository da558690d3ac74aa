use mathlib.Core.Path.{sym, ◌∙◌}
use Rattle.styles.proofs.bent.count_side.Goals as goal

pub returns-then-bends : goal.returns-then-bends
returns-then-bends c = rw (sym c.bends.ensures ∙ c.if-bends.true)

pub returns-else-bends : goal.returns-else-bends
returns-else-bends c = rw (sym c.bends.ensures ∙ c.if-bends.false)
