use Rattle.numbers.specs.Order.{larger}
use Rattle.leaves.proofs.OrderTests.{tested, is_nan_true, is_nan_false}
use Rattle.leaves.proofs.order.larger.Goals as goal

pub returns-then-a : goal.returns-then-a
unfolding larger
returns-then-a c = rw (is_nan_true c.args.a c.if-a.true)

pub returns-then-before : goal.returns-then-before
unfolding larger
returns-then-before c =
    rw (is_nan_false c.args.a c.if-a.false, tested c.before-2.ensures c.if-before.true)

pub returns-else-before : goal.returns-else-before
unfolding larger
returns-else-before c =
    rw (is_nan_false c.args.a c.if-a.false, tested c.before-2.ensures c.if-before.false)
