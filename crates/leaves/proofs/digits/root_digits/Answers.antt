-- `leaves::root_digits` meets its contract. The loop's invariant is `Going`. Assumes nothing.
use Rattle.leaves.proofs.DigitSteps.{halved, step_keep, step_take, done, same}
use Rattle.leaves.proofs.digits.root_digits.Goals as goal
use Rattle.leaves.proofs.digits.root_digits.Goals.{then-x-t, else-x-t}

pub loop-k-preserved : goal.loop-k-preserved
loop-k-preserved c =
    let inv = c.loop-k.invariant in
    let half = halved _ _ c.loop-k-test.true inv.power in
    elim c.if-x-t.branch [ then-x-t w ↦ same w.x-is w.s-is (step_keep _ _ _ _ _ _ inv half w.if-x-t.true) | else-x-t w ↦ same w.x-is w.s-is (step_take _ _ _ _ _ _ inv half w.if-x-t.false) ]

pub returns : goal.returns
returns c = done _ _ _ _ _ c.loop-k.invariant c.loop-k-test.false
