-- Bounds through the root: it halves the digits, and a square that is above its operand has the greater root.
use Rattle.std.specs.Prelude.{◌≡◌, Float}
use Rattle.std.proofs.Common.{arith, pow_pos}
use Rattle.std.proofs.Math.Path.{ap}
use Prim.Native.Nat.{ℕ, ◌*◌, ◌^◌, ◌≤◌, ◌<◌}
use native.Mathlib.Nat.{mul-pos, mul-le-mul, mul-le-mul_right, le_of_mul-le-mul_right, lt_of_not-le, le_of_lt}
use Rattle.std.proofs.Math.Decide.{dec_le}
use Rattle.std.proofs.Math.Dec.{T}
use Rattle.std.specs.Float.{nan, inf, fin, binary64}
use Rattle.std.specs.Float.Ieee.{up, down, fits}
use Rattle.numbers.specs.Order.{finite}
use Rattle.numbers.specs.Value.{units_of, Within, Nearer}
use Rattle.numbers.specs.Units.{units_exact}

-- ---- bounds, in units
scale_down : (a d u w l : ℕ) → 0 < l → a * l ≡ u * d → u ≤ w * l → a ≤ w * d
scale_down a d u w l L e h = le_of_mul-le-mul_right {k = l} (omega (arith, mul-le-mul_right d h)) L

pub within_units : (n : ℕ) (x : Float) → T (fits binary64 x) → T (finite x) → units_of x ≤ 2 ^ n * 2 ^ 1074 → Within n x
unfolding Within finite
within_units n nan f g h = absurd g
within_units n (inf s) f g h = absurd g
within_units n (fin s m e) f g h = scale_down (m * up e) (down e) (units_of (fin s m e)) (2 ^ n) (2 ^ 1074) (pow_pos 1074) (units_exact s m e f) h

-- ---- a square above n lies above the root, and one below it below
pub nearer_top : (n r y : ℕ) → n ≤ y * y → Nearer n r y → r ≤ y
nearer_top n r y h p = go (dec_le r y)
  where
    go : Dec (r ≤ y) → r ≤ y
    go (yes l) = l
    go (no g) =
        let l : y < r = lt_of_not-le g in
        let k : y ≤ r = le_of_lt l in
        omega (arith, p.under l, mul-le-mul k k, mul-le-mul_right y k)

pub nearer_bottom : (n r y : ℕ) → y * y ≤ n → Nearer n r y → y ≤ r
nearer_bottom n r y h p = go (dec_le y r)
  where
    go : Dec (y ≤ r) → y ≤ r
    go (yes l) = l
    go (no g) =
        let l : r < y = lt_of_not-le g in
        let k : r ≤ y = le_of_lt l in
        omega (arith, p.over l, mul-le-mul k k, mul-le-mul_right y k)

-- ---- a number whose square, rounded, is strictly above x or below it: rounding never turns the order, so its exact square is not on the other side
-- x is a / e, or u units of l to the one, and y is b / d, or v units
module _ (a e u b d v l : ℕ) (L : 0 < l) (p : a * l ≡ u * e) (q : b * l ≡ v * d) where
  x_square : b * b * e * (l * l) ≡ v * v * (d * d * e)
  x_square = omega (arith, ap (λ (k : ℕ). k * (b * l * e)) q, ap (λ (k : ℕ). k * (v * d * e)) q)

  x_value : a * (d * d) * (l * l) ≡ u * l * (d * d * e)
  x_value = omega (arith, ap (λ (k : ℕ). k * (l * (d * d))) p)

  pub square_le : v * v ≤ u * l → b * b * e ≤ a * (d * d)
  square_le h = le_of_mul-le-mul_right {k = l * l} (omega (arith, x_square, x_value, mul-le-mul_right (d * d * e) h)) (mul-pos L L)

  pub le_square : u * l ≤ v * v → a * (d * d) ≤ b * b * e
  le_square h = le_of_mul-le-mul_right {k = l * l} (omega (arith, x_square, x_value, mul-le-mul_right (d * d * e) h)) (mul-pos L L)
