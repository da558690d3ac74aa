-- An accepted coordinate is at most 100,000 in size, and so is what it is rounded to. Assumes nothing.
use Rattle.std.specs.Prelude.{ℕ, ◌+◌, ◌*◌, ◌/◌, ◌^◌, ◌≤◌, ◌<◌, ◌≡◌, Bool, true, false, T, ℤ, Float}
use Rattle.std.proofs.Common.{le_of_mul-le-mul_right, mul-le-mul_right, div-lt_iff_lt-mul, arith, sym, true≢false, pow_pos, lt-ltb}
use Rattle.std.specs.Float.{nan, inf, fin, binary64}
use Rattle.std.specs.Float.Ieee.{up, down, fits, of_int, round, le, lt}
use Rattle.std.specs.Float.Ieee.Fits.{down_pos}
use Rattle.numbers.specs.Order.{finite, magnitude}
use Rattle.numbers.specs.Value.{units_of}
use Rattle.numbers.specs.Units.{units_exact}
use Rattle.numbers.specs.Fraction.{le→cross}
use Rattle.numbers.specs.Rounding.{nearest_whole, nearest_count}
use Rattle.numbers.specs.Laws.{holds}
use Rattle.seqs.specs.Tests.{and_both}
use Rattle.limits.specs.Limits.{good_number, largest}

size_below : (s : Bool) (m : ℕ) (e : ℤ) → good_number (fin s m e) ≡ true → m * up e ≤ 100000 * down e
unfolding good_number finite magnitude largest of_int round
size_below s m e g = omega (arith, le→cross (fin false m e) largest tt tt (holds (and_both true (le (fin false m e) largest) g).1))

units_below : (s : Bool) (m : ℕ) (e : ℤ) → T (fits binary64 (fin s m e)) → good_number (fin s m e) ≡ true → units_of (fin s m e) ≤ 100000 * 2 ^ 1074
units_below s m e f g = le_of_mul-le-mul_right {k = down e} (down_mul (m * up e) (down e) (units_of (fin s m e)) (2 ^ 1074) (units_exact s m e f) (size_below s m e g)) (down_pos e)
  where
    down_mul : (a d u l : ℕ) → a * l ≡ u * d → a ≤ 100000 * d → u * d ≤ 100000 * l * d
    down_mul a d u l h k = omega (arith, mul-le-mul_right l k)

below_half : (u l : ℕ) → 0 < l → u ≤ 100000 * l → (2 * u + l) / (2 * l) ≤ 100000
below_half u l L h =
    let L2 : 0 < 2 * l = omega arith in
    let q : (2 * u + l) / (2 * l) < 100001 = (div-lt_iff_lt-mul L2).1 (omega arith) in
    omega arith

pub nearest_small : (x : Float) → T (fits binary64 x) → good_number x ≡ true → nearest_whole x ≤ 100000
nearest_small nan f g = unfold good_number finite in absurd (true≢false (sym g))
nearest_small (inf s) f g = unfold good_number finite in absurd (true≢false (sym g))
nearest_small (fin s m e) f g = unfold nearest_whole in below_half (units_of (fin s m e)) (2 ^ 1074) (pow_pos 1074) (units_below s m e f g)

-- so the leaf counts it
pub nearest_counted : (x : Float) → good_number x ≡ true → nearest_count x ≡ nearest_whole x
nearest_counted nan g = unfold good_number finite in absurd (true≢false (sym g))
nearest_counted (inf s) g = unfold good_number finite in absurd (true≢false (sym g))
nearest_counted (fin s m e) g =
    unfold nearest_count magnitude lt in
    rw (lt-ltb (m * up e * 1) (1 * 2 ^ 53 * down e) (omega (arith, size_below s m e g, down_pos e)))
