-- What one rounding may err by: a part in 2 ^ 52 of the value, and a unit. Assumes nothing.
use Rattle.std.specs.Prelude.{◌≡◌, Bool, true, false, not, T, Float}
use Rattle.std.proofs.Common.{sym, ap, ◌∙◌, subst, mul-pos, mul-le-mul_right, lt_of_not-le, le-div_iff_mul-le, div-add-mod', mod-lt, arith, pow_pos, pow-add}
use Prim.Native.Nat.{ℕ, suc, ◌+◌, ◌-◌, ◌*◌, ◌/◌, ◌%◌, ◌^◌, ◌≤◌, ◌<◌, compare}
use Rattle.std.proofs.Math.Nat.{eq_of_mul-eq-mul_right}
use Rattle.std.proofs.Math.Decide.{dec_le}
use Rattle.std.specs.Float.{nan, inf, fin, binary64}
use Rattle.std.specs.Float.Ieee.{neg, round, size}
use Rattle.std.specs.Float.Ieee.Digits.{size_reaches}
use Rattle.std.specs.Float.Ieee.Fits.{round-fits, nearest-le}
use Rattle.std.specs.Float.Ieee.Exact.{HasValue}
use Rattle.std.specs.Float.Ieee.Nearest.{closest, nearest-ge}
use Rattle.std.specs.Float.Ieee.Order.{drop, kept}
use Rattle.std.specs.Float.Ieee.Scale as scale
use Rattle.numbers.specs.Order.{finite, negative}
use Rattle.numbers.specs.Value.{units_of}
use Rattle.numbers.specs.Units.{units_of_lem}
use Rattle.numbers.specs.Rounded.{neg_round}
use Rattle.numbers.specs.Bounds.{within_finite, within_round}

-- ---- to a whole number: less than one away
closest_near : (n u : ℕ) → 0 < u → (closest n u * u ≤ n + u) × (n ≤ closest n u * u + u)
closest_near n u h = go (closest n u) (n / u) (n % u) (div-add-mod' n u) (mod-lt n h) (nearest-ge (n / u) (compare (n % u * 2) u)) (nearest-le (n / u) (compare (n % u * 2) u))
  where
    go : (c w r : ℕ) → w * u + r ≡ n → r < u → w ≤ c → c ≤ suc w → (c * u ≤ n + u) × (n ≤ c * u + u)
    go c w r e l a b = (omega (arith, mul-le-mul_right u b), omega (arith, mul-le-mul_right u a))

-- ---- what the digits that are dropped are worth
drop_small : (n c : ℕ) → 0 < c → 2 ^ 52 * (c * 2 ^ drop 53 n c) ≤ n + 2 ^ 52 * c
drop_small n c C = go (dec_le (size (n / c)) 53)
  where
    none : (z : ℕ) → z ≤ 53 → z - 53 ≡ 0
    none z h = omega arith

    under : (z : ℕ) → 53 < z → z - 1 < z
    under z h = omega arith

    split : (z : ℕ) → 53 < z → z - 1 ≡ 52 + (z - 53)
    split z h = omega arith

    go : Dec (size (n / c) ≤ 53) → 2 ^ 52 * (c * 2 ^ drop 53 n c) ≤ n + 2 ^ 52 * c
    go (yes l) = rw (none (size (n / c)) l) (omega arith)
    go (no g) =
        let l = lt_of_not-le g in
        let z = size (n / c) in
        let a : 2 ^ (z - 1) * c ≤ n = (le-div_iff_mul-le C).0 (size_reaches (n / c) (z - 1) (under z l)) in
        let b : 2 ^ (z - 1) ≡ 2 ^ 52 * 2 ^ (z - 53) = ap (λ (k : ℕ). 2 ^ k) (split z l) ∙ pow-add 2 52 (z - 53) in
        last (2 ^ (z - 53)) (subst (λ (k : ℕ). k * c ≤ n) b a)
      where
        last : (d : ℕ) → 2 ^ 52 * d * c ≤ n → 2 ^ 52 * (c * d) ≤ n + 2 ^ 52 * c
        last d h = omega arith

-- v units are a / c ones, of l units each, but for that
pub record Close (l v a c : ℕ) : Type 0 where
  pub most : 2 ^ 52 * (v * c) ≤ 2 ^ 52 * (a * l) + a * l + 2 ^ 52 * c
  pub least : 2 ^ 52 * (a * l) ≤ 2 ^ 52 * (v * c) + a * l + 2 ^ 52 * c

grid_close : (a c : ℕ) → 0 < c → Close (2 ^ 1074) (scale.grid binary64 a c) a c
grid_close a c C =
    let n = a * 2 ^ 1074 in
    let r = closest_near n (c * 2 ^ drop 53 n c) (mul-pos C (pow_pos (drop 53 n c))) in
    go (2 ^ 1074) (kept 53 n c) (2 ^ drop 53 n c) r.0 r.1 (drop_small n c C)
  where
    go : (l k d : ℕ) → k * (c * d) ≤ a * l + c * d → a * l ≤ k * (c * d) + c * d → 2 ^ 52 * (c * d) ≤ a * l + 2 ^ 52 * c → Close l (k * d) a c
    go l k d p q h = record { most = omega arith; least = omega arith }

-- ---- a rounded fraction
fine : (x : Float) → T (finite x) → T (scale.finite x)
unfolding finite
fine nan h = h
fine (inf s) h = h
fine (fin s m e) h = tt

opposite : (x : Float) (a c : ℕ) → HasValue x false a c → HasValue (neg x) true a c
unfolding neg
opposite nan a c h = h
opposite (inf s) a c h = h
opposite (fin s m e) a c h = (ap not h.0, h.1)

sign_of : (x : Float) (s : Bool) (a c : ℕ) → HasValue x s a c → negative x ≡ s
unfolding negative
sign_of nan s a c h = absurd h
sign_of (inf t) s a c h = absurd h
sign_of (fin t m e) s a c h = h.0

module _ (a c m : ℕ) (C : 0 < c) (l : m ≤ 1000) (h : a ≤ 2 ^ m * c) where
  value_up : HasValue (round binary64 false a c) false (scale.grid binary64 a c) (2 ^ 1074)
  value_up = scale.round_val binary64 a c (scale.round_under binary64 a c (fine (round binary64 false a c) (within_finite m (round binary64 false a c) (within_round m false a c l C h))))

  round_value : (s : Bool) → HasValue (round binary64 s a c) s (scale.grid binary64 a c) (2 ^ 1074)
  round_value false = value_up
  round_value true = subst (λ (x : Float). HasValue x true (scale.grid binary64 a c) (2 ^ 1074)) (neg_round binary64 a c) (opposite (round binary64 false a c) (scale.grid binary64 a c) (2 ^ 1074) value_up)

  pub round_sign : (s : Bool) → negative (round binary64 s a c) ≡ s
  round_sign s = sign_of (round binary64 s a c) s (scale.grid binary64 a c) (2 ^ 1074) (round_value s)

  pub round_close : (s : Bool) → Close (2 ^ 1074) (units_of (round binary64 s a c)) a c
  round_close s =
      let e = (units_of_lem (round binary64 s a c) s (scale.grid binary64 a c) (2 ^ 1074) (pow_pos 1074) (round-fits binary64 s a c) (round_value s)).0 in
      subst (λ (v : ℕ). Close (2 ^ 1074) v a c) (sym (eq_of_mul-eq-mul_right (2 ^ 1074) (pow_pos 1074) (units_of (round binary64 s a c)) (scale.grid binary64 a c) e)) (grid_close a c C)
