-- Whole numbers: floor and ceiling, a zero keeping its operand's sign. Definitions only.
use Rattle.std.specs.Prelude.{ℕ, ◌+◌, ◌*◌, ◌/◌, ◌%◌, Bool, true, false, not, cond, eqb, Float}
use Rattle.std.specs.Float.{nan, inf, fin, binary64}
use Rattle.std.specs.Float.Ieee.{up, down, round}
use Rattle.numbers.specs.Order.{negative}

-- a / d, down to a whole number, or up where `away` says so
abbrev pub part : Bool → ℕ → ℕ → ℕ
part false a d = a / d
part true a d = a / d + cond (eqb (a % d) 0) 0 1

-- the magnitude made whole, toward zero or away from it, with x's sign. `round` rounds nothing here (`whole_exact`)
unfoldable pub whole_of : Bool → Float → Float
unfolding round
whole_of away nan = nan
whole_of away (inf s) = inf s
whole_of away (fin s m e) = round binary64 s (part away (m * up e) (down e)) 1

unfoldable pub floor : Float → Float
unfolding whole_of negative
floor x = whole_of (negative x) x

unfoldable pub ceil : Float → Float
unfolding whole_of negative
ceil x = whole_of (not (negative x)) x
