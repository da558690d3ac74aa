use native.Mathlib.Omega.{arith}
use Rattle.column.proofs.sized.places_if.Goals as goal

pub count-requires : goal.count-requires
count-requires c = omega (arith, c.requires c.if-sewn.true)

pub returns-then-sewn : goal.returns-then-sewn
returns-then-sewn c = rw c.if-sewn.true c.count.ensures

pub returns : goal.returns
returns c = rw c.if-sewn.false
