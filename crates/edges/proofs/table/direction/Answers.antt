use lib.Ieee.{of_bits, neg}
use Rattle.edges.specs.Table.{direction}
use Rattle.edges.proofs.table.direction.Goals as goal

pub returns-then-falls : goal.returns-then-falls
unfolding direction of_bits
returns-then-falls c = rw c.if-falls.true

pub returns-else-falls : goal.returns-else-falls
unfolding direction of_bits neg
returns-else-falls c = rw c.if-falls.false
