-- `ordered_bounds` meets its contract: the corners that are left are still to widen it. Assumes nothing.
use mathlib.Core.Path.{refl}
use lib.Ieee.{of_bits}
use Rattle.cross.proofs.grid.ordered_bounds.Goals as goal

pub loop-q-init : goal.loop-q-init
unfolding of_bits
loop-q-init c = rw (c.into_iter-q-iterator.ensures.into_iter_gives, c.of-q-items.ensures) refl

pub loop-q-preserved : goal.loop-q-preserved
loop-q-preserved c = rw (c.smaller-left.ensures, c.smaller-top.ensures, c.larger-right.ensures, c.larger-bottom.ensures) (rw c.in-Some.ensures.steps at c.loop-q.invariant)

pub returns : goal.returns
returns c = rw c.in-None.ensures.steps.0 at c.loop-q.invariant
