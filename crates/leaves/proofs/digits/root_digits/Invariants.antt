-- `leaves::root_digits` meets its contract. The loop's invariant is `Going`. Assumes nothing.
use Rattle.leaves.proofs.DigitSteps.{Going}
use Rattle.leaves.proofs.digits.root_digits.Given as goal

abbrev pub invariant-loop-k : goal.invariant-loop-k
invariant-loop-k l = Going l.w l.x l.s l.c l.k

abbrev pub decreases-loop-k : goal.decreases-loop-k
decreases-loop-k l = l.k
