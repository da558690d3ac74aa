use mathlib.Core.Path.{◌∙◌}
use Rattle.satinrules.specs.Column.{pulled}
use Rattle.passes.proofs.top.pulled.Goals as goal

pub returns-then-short : goal.returns-then-short
unfolding pulled
returns-then-short c = rw c.if-short.true (c.plus.ensures ∙ rw (c.times.ensures, c.norm.ensures, c.minus.ensures))

pub returns-else-short : goal.returns-else-short
unfolding pulled
returns-else-short c = rw c.if-short.false
