-- A bounded square, and a bounded sum of two squares, bound what was squared.
use Rattle.std.specs.Prelude.{Bool, true, false, ◌⊎◌, ℕ, ◌+◌, ◌*◌, ◌^◌, ◌≤◌, ◌<◌, T, pos, Float}
use Rattle.std.proofs.Common.{inl, inr, mul-pos, mul-le-mul, le_of_lt, lt_of_not-le, arith, lit<}
use Rattle.std.proofs.Math.Decide.{dec_le}
use Rattle.std.specs.Float.{nan, inf, fin, binary64}
use Rattle.std.specs.Float.Ieee.{up, down, fits, add, lt, le}
use Rattle.std.specs.Float.Ieee.Fits.{down_pos, mul-fits}
use Rattle.numbers.specs.Num.{◌⊕◌, ◌⊗◌, zero64, real}
use Rattle.numbers.specs.Order.{finite}
use Rattle.numbers.specs.Value.{Within}
use Rattle.numbers.specs.Fraction.{over, under}
use Rattle.numbers.specs.FloatOrder as order
use Rattle.numbers.specs.Commute.{⊕-comm}
use Rattle.numbers.specs.Rounded.{rounded_le, mul_rounded}
use Rattle.numbers.specs.Monotone.{real_rounded, square_up, add_up}

-- x is at most 2 ^ n in size, or its square at least 4 ^ n
big_square : (n : ℕ) (x : Float) → T (finite x) → Within n x ⊎ T (le (real (pos (2 ^ n * 2 ^ n))) (x ⊗ x))
unfolding Within finite
big_square n nan f = absurd f
big_square n (inf s) f = absurd f
big_square n (fin s m e) f = go (dec_le (m * up e) (2 ^ n * down e))
  where
    squares : (s : Bool) (a d : ℕ) → 2 ^ n * d < a → 2 ^ n * 2 ^ n * (d * d) + (over s a * under s a + under s a * over s a) * 1 ≤ (over s a * over s a + under s a * under s a) * 1 + 0 * (d * d)
    squares true a d h = omega (arith, mul-le-mul (le_of_lt h) (le_of_lt h))
    squares false a d h = omega (arith, mul-le-mul (le_of_lt h) (le_of_lt h))

    go : Dec (m * up e ≤ 2 ^ n * down e) → (m * up e ≤ 2 ^ n * down e) ⊎ T (le (real (pos (2 ^ n * 2 ^ n))) (fin s m e ⊗ fin s m e))
    go (yes l) = inl l
    go (no g) =
        inr (rounded_le (real_rounded (pos (2 ^ n * 2 ^ n))) (mul_rounded (fin s m e) (fin s m e) tt tt) (lit< tt) (mul-pos (down_pos e) (down_pos e))
        (squares s (m * up e) (down e) (lt_of_not-le g)))

pub within_square : (n : ℕ) (x : Float) → T (finite x) → T (lt (x ⊗ x) (real (pos (2 ^ n * 2 ^ n)))) → Within n x
within_square n x f h = elim (big_square n x f) [ inl w ↦ w | inr k ↦ absurd (order.le_lt_clash (real (pos (2 ^ n * 2 ^ n))) (x ⊗ x) k h) ]

-- p ≤ p + q for what is not below zero, an infinity too
pub over_up : (p q : Float) → T (fits binary64 p) → T (le zero64 p) → T (le zero64 q) → T (le p (p ⊕ q))
over_up nan q f h k = unfold le in absurd h
over_up (inf true) q f h k = unfold le in absurd h
over_up (inf false) nan f h k = unfold le in absurd k
over_up (inf false) (inf true) f h k = unfold le in absurd k
over_up (inf false) (inf false) f h k = unfold add le in tt
over_up (inf false) (fin t n d) f h k = unfold add le in tt
over_up (fin s m e) q f h k = unfold finite in add_up (fin s m e) q f tt k

first_of_lem : (n : ℕ) (x y : Float) → T (finite x) → T (finite y) → T (lt (x ⊗ x ⊕ y ⊗ y) (real (pos (2 ^ n * 2 ^ n)))) → Within n x
first_of_lem n x y f g h = within_square n x f (order.le_lt_trans (x ⊗ x) (x ⊗ x ⊕ y ⊗ y) (real (pos (2 ^ n * 2 ^ n))) (over_up (x ⊗ x) (y ⊗ y) (mul-fits binary64 x x) (square_up x f) (square_up y g)) h)

pub within_squares : (n : ℕ) (x y : Float) → T (finite x) → T (finite y) → T (lt (x ⊗ x ⊕ y ⊗ y) (real (pos (2 ^ n * 2 ^ n)))) → Within n x × Within n y
within_squares n x y f g h = (first_of_lem n x y f g h, first_of_lem n y x g f (rw (⊕-comm (y ⊗ y) (x ⊗ x)) h))
