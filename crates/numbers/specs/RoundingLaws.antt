-- The rounding by its code: twice a number is exact, and cut to a whole number it says on which side of a half the number lies. Assumes nothing.
use Rattle.std.specs.Prelude.{ℕ, ◌+◌, ◌-◌, ◌*◌, ◌/◌, ◌^◌, ◌≤◌, ◌<◌, min, ◌≡◌, T, ℤ, pos, Float}
use Rattle.std.proofs.Common.{mul_comm, mul_assoc, mul-pos, lt_of_le_of_lt, mul-le-mul_right, arith, ◌∙◌, lit≤, lit<, pow-add, pow_pos}
use Rattle.std.proofs.Math.Nat.{add-div_right, div-div-eq-div-mul, div-le_of_le-mul}
use Rattle.std.proofs.Math.Path.{sym, ap}
use Rattle.std.proofs.Math.Bool.{false}
use Rattle.std.specs.Float.{nan, inf, fin}
use Rattle.std.specs.Float.Ieee.{binary64, up, down, fits, add, sum, to_unsigned, lt}
use Rattle.std.specs.Float.Ieee.Fits.{down_pos}
use Rattle.std.specs.Float.Ieee.Exact.{HasValue, round_exact}
use Rattle.std.specs.Float.Ieee.Nearest.{div_same}
use Rattle.numbers.specs.Num.{◌⊕◌}
use Rattle.numbers.specs.Order.{magnitude}
use Rattle.numbers.specs.Value.{units_of, Within}
use Rattle.numbers.specs.Choice.{magnitude_fits}
use Rattle.numbers.specs.Units.{grid, units_exact, units_within}
use Rattle.numbers.specs.FloatOrder.{lt_le}
use Rattle.numbers.specs.Bounds.{within_le, within_fin}
use Rattle.numbers.specs.Rounding.{nearest_whole}

unsigned_of : (v : Float) (a c : ℕ) → 0 < c → HasValue v false a c → to_unsigned 64 v ≡ min (a / c) (2 ^ 64 - 1)
unfolding to_unsigned
unsigned_of nan a c C h = absurd h
unsigned_of (inf t) a c C h = absurd h
unsigned_of (fin t m e) a c C h = rw h.0 (ap (λ (q : ℕ). min q (2 ^ 64 - 1)) (div_same (m * up e) (down e) a c (down_pos e) C h.1))

twice : (a d l u : ℕ) → a * l ≡ u * d → (a * d + a * d) * l ≡ u * 2 * (d * d)
twice a d l u h = omega (arith, ap (λ (z : ℕ). z * d) h)

half_up : (u l : ℕ) → 0 < l → (u * 2 / l + 1) / 2 ≡ (2 * u + l) / (2 * l)
half_up u l L =
    let e : 2 * u + l ≡ u * 2 + l = omega arith in
    rw (e, mul_comm 2 l, ← div-div-eq-div-mul (u * 2 + l) l 2, add-div_right (u * 2) L)

cut_below : (u l : ℕ) → u ≤ 2 ^ 53 * l → u * 2 / l ≤ 2 ^ 54
cut_below u l h = div-le_of_le-mul l (omega arith)

-- ---- of a magnitude

module _ (m : ℕ) (e : ℤ) (f : T (fits binary64 (fin false m e))) (small : units_of (fin false m e) ≤ 2 ^ 53 * 2 ^ 1074) where
  doubled : HasValue (fin false m e ⊕ fin false m e) false (m * up e * down e + m * up e * down e) (down e * down e)
  unfolding add sum
  doubled =
      let g = grid (fin false m e) f in
      let p : g.digits * 2 ^ (g.places + 1) ≡ units_of (fin false m e) * 2 = ap (λ (z : ℕ). g.digits * z) (pow-add 2 g.places 1) ∙ sym (mul_assoc g.digits (2 ^ g.places) 2) ∙ ap (λ (z : ℕ). z * 2) (sym g.is) in
      round_exact binary64 false (m * up e * down e + m * up e * down e) (down e * down e) g.digits (g.places + 1) (mul-pos (down_pos e) (down_pos e)) g.short
      (rw p (lt_of_le_of_lt (mul-le-mul_right 2 small) (lit< tt)))
      (rw p (twice (m * up e) (down e) (2 ^ 1074) (units_of (fin false m e)) (units_exact false m e f)))

  cut_twice : to_unsigned 64 (fin false m e ⊕ fin false m e) ≡ units_of (fin false m e) * 2 / 2 ^ 1074
  cut_twice =
      let a = m * up e * down e in
      let d = down e in
      unsigned_of (fin false m e ⊕ fin false m e) (a + a) (d * d) (mul-pos (down_pos e) (down_pos e)) doubled
      ∙ ap (λ (q : ℕ). min q (2 ^ 64 - 1)) (div_same (a + a) (d * d) (units_of (fin false m e) * 2) (2 ^ 1074) (mul-pos (down_pos e) (down_pos e)) (pow_pos 1074) (twice (m * up e) d (2 ^ 1074) (units_of (fin false m e)) (units_exact false m e f)))
      ∙ uncut (units_of (fin false m e) * 2 / 2 ^ 1074) (cut_below (units_of (fin false m e)) (2 ^ 1074) small)
    where
      uncut : (q : ℕ) → q ≤ 2 ^ 54 → min q (2 ^ 64 - 1) ≡ q
      uncut q h = omega arith

-- ---- of a number below 2 ^ 53

module _ (x : Float) (f : T (fits binary64 x)) (h : T (lt (magnitude x) (fin false 1 (pos 53)))) where
  within : Within 53 x
  within = within_le 53 x (fin false 1 (pos 53)) (lt_le (magnitude x) (fin false 1 (pos 53)) h) (within_fin 53 false 1 (pos 53) (lit≤ tt))

  pub nearest_is : (to_unsigned 64 (magnitude x ⊕ magnitude x) + 1) / 2 ≡ nearest_whole x
  nearest_is = go x f within
    where
      go : (x : Float) → T (fits binary64 x) → Within 53 x → (to_unsigned 64 (magnitude x ⊕ magnitude x) + 1) / 2 ≡ nearest_whole x
      go nan f w = unfold Within in absurd w
      go (inf s) f w = unfold Within in absurd w
      go (fin s m e) f w =
          unfold magnitude nearest_whole units_of in
          rw (cut_twice m e (unfold magnitude in magnitude_fits (fin s m e) f) (unfold units_of in units_within 53 s m e f w)) (half_up (m * up e * 2 ^ 1074 / down e) (2 ^ 1074) (pow_pos 1074))

  pub twice_small : to_unsigned 64 (magnitude x ⊕ magnitude x) ≤ 2 ^ 54
  twice_small = go x f within
    where
      go : (x : Float) → T (fits binary64 x) → Within 53 x → to_unsigned 64 (magnitude x ⊕ magnitude x) ≤ 2 ^ 54
      go nan f w = unfold Within in absurd w
      go (inf s) f w = unfold Within in absurd w
      go (fin s m e) f w =
          unfold magnitude units_of in
          rw (cut_twice m e (unfold magnitude in magnitude_fits (fin s m e) f) (unfold units_of in units_within 53 s m e f w)) (cut_below (m * up e * 2 ^ 1074 / down e) (2 ^ 1074) (unfold units_of in units_within 53 s m e f w))
