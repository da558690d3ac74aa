-- `polyline_length` meets its contract: what the sum so far and the corners that are left come to is the answer. Assumes nothing.
use Rattle.std.proofs.Math.Path.{refl}
use Rattle.std.proofs.Common.{sym, ◌∙◌}
use Rattle.std.specs.Float.Ieee.{of_bits}
use Rattle.polyline.specs.Line.{length_from, polyline_length}
use Rattle.polyline.proofs.polyline_length.Goals as goal

pub returns-in_default : goal.returns-in_default
unfolding of_bits polyline_length
returns-in_default c = rw (sym c.of-corners.ensures ∙ c.in_default.ensures.steps.0) refl

pub loop-q-init : goal.loop-q-init
unfolding of_bits polyline_length
loop-q-init c = rw (sym c.of-corners.ensures ∙ c.in-Some.ensures.steps, c.into_iter-q-iterator.ensures.into_iter_gives) refl

pub loop-q-preserved : goal.loop-q-preserved
unfolding length_from
loop-q-preserved c = rw (c.dist-sum.ensures) (rw (c.in-Some-q.ensures.steps) at c.loop-q.invariant)

pub returns : goal.returns
unfolding length_from
returns c = rw (c.in-None.ensures.steps.0) at c.loop-q.invariant
