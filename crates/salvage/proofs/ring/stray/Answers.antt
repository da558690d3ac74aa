use mathlib.Core.Path.{sym, ◌∙◌}
use Rattle.seqs.specs.Tests.{passed, failed}
use Rattle.salvage.specs.Ring.{stray}
use mathlib.Core.Bool.{not}
use mathlib.Core.Path.{ap}
use Rattle.salvage.proofs.ring.stray.Goals as goal

pub returns-then-not-finite_point : goal.returns-then-not-finite_point
unfolding stray
returns-then-not-finite_point c = rw (failed c.finite_point.ensures (ap not c.if-not-finite_point.true))

pub returns-then-not-good_point : goal.returns-then-not-good_point
unfolding stray
returns-then-not-good_point c = rw (passed c.finite_point.ensures (ap not c.if-not-finite_point.false), failed c.good_point.ensures (ap not c.if-not-good_point.true))

pub returns-then-repeats : goal.returns-then-repeats
unfolding stray
returns-then-repeats c = rw (passed c.finite_point.ensures (ap not c.if-not-finite_point.false), passed c.good_point.ensures (ap not c.if-not-good_point.false), sym c.repeats.ensures ∙ c.if-repeats.true)

pub returns : goal.returns
unfolding stray
returns c = rw (passed c.finite_point.ensures (ap not c.if-not-finite_point.false), passed c.good_point.ensures (ap not c.if-not-good_point.false), sym c.repeats.ensures ∙ c.if-repeats.false)
