use Rattle.cross.proofs.grid.least.Goals as goal

pub returns-then-x-side : goal.returns-then-x-side
returns-then-x-side c = rw c.if-x-side.true

pub returns-else-x-side : goal.returns-else-x-side
returns-else-x-side c = rw c.if-x-side.false
