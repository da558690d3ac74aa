use Rattle.cross.specs.SideLaws.{settled_same}
use Rattle.cross.proofs.grid.bounds.Goals as goal

pub returns-then-settled : goal.returns-then-settled
returns-then-settled c = settled_same _ _ c.plain_bounds-b.ensures (c.settled.ensures c.if-settled.true)
