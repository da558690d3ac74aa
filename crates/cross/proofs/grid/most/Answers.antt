use Rattle.cross.proofs.grid.most.Goals as goal

pub returns-then-side-x : goal.returns-then-side-x
returns-then-side-x c = rw c.if-side-x.true

pub returns-else-side-x : goal.returns-else-side-x
returns-else-side-x c = rw c.if-side-x.false
