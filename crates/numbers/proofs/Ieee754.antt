-- squareRoot of IEEE 754 above zero: what specs/Ieee754 has of it beside. Assumes nothing.
use Rattle.std.specs.Prelude.{T, Float}
use Rattle.std.specs.Float.{binary64}
use Rattle.std.specs.Float.Ieee.{fits, lt}
use Rattle.numbers.specs.Num.{zero64}
use Rattle.numbers.specs.Root.{root}
use Rattle.numbers.specs.Order.{finite}
use Rattle.numbers.specs.Value.{IsRoot}
use Rattle.numbers.proofs.Roots.{root_has}

-- ---- squareRoot, rounded to nearest: above zero it is the correctly rounded root, and the only one
pub root_is : (x : Float) → T (fits binary64 x) → T (finite x) → T (lt zero64 x) → IsRoot x (root x)
root_is = root_has
