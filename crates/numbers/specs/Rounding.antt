-- A number rounded to a whole one, halves away from zero, by its exact value. Definitions only.
use Rattle.std.specs.Prelude.{ℕ, ◌+◌, ◌*◌, ◌/◌, ◌^◌, false, cond, ℤ, pos, neg_ℤ, Float}
use Rattle.std.specs.Float.{fin}
use Rattle.std.specs.Float.Ieee.{lt, to_unsigned}
use Rattle.numbers.specs.Order.{negative, magnitude}
use Rattle.numbers.specs.Value.{units_of}

-- the magnitude u / 2 ^ 1074 and a half, cut to a whole number
unfoldable pub nearest_whole : Float → ℕ
nearest_whole x = (2 * units_of x + 2 ^ 1074) / (2 * 2 ^ 1074)

unfoldable pub rounded : Float → ℤ
rounded x = cond (negative x) (neg_ℤ (pos (nearest_whole x))) (pos (nearest_whole x))

-- the magnitude rounded, as a u64: from 2 ^ 53 on it is whole, and cut where a u64 ends
unfoldable pub nearest_count : Float → ℕ
unfolding lt magnitude to_unsigned
nearest_count x = cond (lt (magnitude x) (fin false 1 (pos 53))) (nearest_whole x) (to_unsigned 64 (magnitude x))
