use mathlib.Core.Path.{◌≡◌}
use mathlib.Core.Bool.{true}
use lib.Ieee.{of_bits, round, lt}
use Prim.Native.Nat.{◌^◌}
use Rattle.numbers.specs.Num.{literal}
use Rattle.rules.specs.Fill.{kept_side}
use Rattle.edges.proofs.side.kept_side.Goals as goal

pub returns-then-magnitude : goal.returns-then-magnitude
unfolding kept_side literal round of_bits
returns-then-magnitude c =
    let flat : lt c.magnitude.result (literal 1 (10 ^ 9)) ≡ true = c.if-magnitude.true in
    rw (← c.magnitude.ensures, flat)

pub returns-then-a-b : goal.returns-then-a-b
unfolding kept_side literal round of_bits
returns-then-a-b c = let t = rw c.magnitude.ensures at c.if-magnitude.false in rw (t, c.if-a-b.true, c.edge_of.ensures)

pub returns : goal.returns
unfolding kept_side literal round of_bits
returns c = let t = rw c.magnitude.ensures at c.if-magnitude.false in rw (t, c.if-a-b.false, c.edge_of-2.ensures)
