-- The root of every pattern: which answer it has.
use Rattle.std.proofs.Common.{◌≡◌, ℕ, zero, suc, ◌+◌, ◌*◌, ◌/◌, ◌%◌, ◌^◌, ◌<◌, ◌≤◌, Bool, true, false, cond, not, T, eqb, ℤ, sym, refl, ap, ◌∙◌, subst, lt_irrefl, mul-pos, zero-mul, arith, pow_pos, ne_eqb, le-leb}
use native.Mathlib.Decide.{dec_lt}
use lib.Count.{count_trailing_zeros}
use borrow.Author.Tests.{lt-leb}
use lib.Ieee.{Float, nan, inf, fin, binary64, up, down, minus, odd, of_bits, to_bits, of_fields, fits, is_nan, eq, ne}
use lib.Ieee.Compare.{differs_from_itself}
use lib.Ieee.Digits.{Equals, odd_val}
use lib.Ieee.Fits.{down_pos}
use lib.Ieee.Bits.{of_bits-to_bits}
use Rattle.numbers.specs.Root.{root}
use Rattle.numbers.specs.Decode.{read, no_product}

pub is_nan_lem : (x : Float) → ne x x ≡ true → x ≡ nan
is_nan_lem x h = differs_from_itself x (subst T (sym h) tt)

pub not_nan : (x : Float) → ne x x ≡ false → T (not (is_nan x))
unfolding ne is_nan
not_nan nan h = subst T h tt
not_nan (inf s) h = tt
not_nan (fin s m e) h = tt

pub not_nan_itself : (x : Float) → eq x x ≡ true → T (not (is_nan x))
unfolding eq is_nan
not_nan_itself nan h = subst T (sym h) tt
not_nan_itself (inf s) h = tt
not_nan_itself (fin s m e) h = tt

-- what a pattern says of its value holds of the value
pub by_pattern : (P : Float → Type 0) (x : Float) → T (fits binary64 x) → P (of_bits binary64 (to_bits binary64 x)) → P x
by_pattern P x h p = subst P (of_bits-to_bits binary64 x h) p

-- ---- a NaN, the zeros and the infinity above are their own roots
abbrev pub Own : Float → Type 0
Own x = x ≡ root x

pub nan_own : (x : Float) → ne x x ≡ true → Own x
unfolding root
nan_own x h = subst Own (sym (is_nan_lem x h)) refl

pub zero_own : (b : ℕ) → b ≡ 0 → Own (of_bits binary64 b)
unfolding of_bits root
zero_own b e = subst (λ (b : ℕ). Own (of_bits binary64 b)) (sym e) refl

pub minus_zero_own : (b : ℕ) → b ≡ 2 ^ 63 → Own (of_bits binary64 b)
unfolding of_bits root
minus_zero_own b e = subst (λ (b : ℕ). Own (of_bits binary64 b)) (sym e) refl

pub infinity_own : (b : ℕ) → b ≡ 2047 * 2 ^ 52 → Own (of_bits binary64 b)
unfolding of_bits root
infinity_own b e = subst (λ (b : ℕ). Own (of_bits binary64 b)) (sym e) refl

-- ---- below zero
below_fin : (m : ℕ) (e : ℤ) (a : ℕ) → 0 < a → Equals (fin true m e) a (2 ^ 1074) → root (fin true m e) ≡ nan
unfolding root
below_fin zero e a p h = absurd (no_product a (down e) p (down_pos e) (sym (ap (λ (x : ℕ). x * 2 ^ 1074) (zero-mul (up e)) ∙ zero-mul (2 ^ 1074)) ∙ h))
below_fin (suc m) e a p h = refl

below_odd : (d q k : ℕ) → 0 < q → root (odd d true q k 1074) ≡ nan
unfolding odd
below_odd d zero k h = absurd (lt_irrefl 0 h)
below_odd d (suc q) k h = below_fin (suc q / 2 ^ count_trailing_zeros d (suc q)) (minus (k + count_trailing_zeros d (suc q)) 1074) (suc q * 2 ^ k) (mul-pos h (pow_pos k)) (odd_val d true (suc q) k 1074)

below_field : (x t : ℕ) → 0 < x + t → root (of_fields binary64 true x t) ≡ nan
unfolding of_fields root
below_field zero t h = below_odd 53 t 0 (omega arith)
below_field (suc x) t h = go (eqb (suc x) 2047) (eqb t 0)
  where
    go : (a b : Bool) → root (cond a (cond b (inf true) nan) (odd 53 true (2 ^ 52 + t) x 1074)) ≡ nan
    go true true = refl
    go true false = refl
    go false b = below_odd 53 (2 ^ 52 + t) x (omega arith)

-- a pattern past the infinity above, but for -0
top_field : (t : ℕ) → eqb t 0 ≡ false → root (of_fields binary64 false 2047 t) ≡ nan
unfolding of_fields root
top_field t e = ap (λ (a : Bool). root (cond a (inf false) nan)) e

pub no_root : (b : ℕ) → b < 2 ^ 64 → 2047 * 2 ^ 52 < b → (b ≡ 2 ^ 63 → ⊥) → nan ≡ root (of_bits binary64 b)
no_root b u h n = go (dec_lt b (2 ^ 63))
  where
    go : Dec (b < 2 ^ 63) → nan ≡ root (of_bits binary64 b)
    go (yes l) = sym (ap root (read b {s = false} {x = 2047} (lt-leb (2 ^ 63) b l) (omega arith) refl) ∙ top_field (b % 2 ^ 52) (ne_eqb (b % 2 ^ 52) 0 (λ e. omega arith)))
    go (no g) =
        let l : 2 ^ 63 ≤ b = omega arith in
        sym (ap root (read b {s = true} (le-leb (2 ^ 63) b l) refl refl) ∙ below_field (b % 2 ^ 63 / 2 ^ 52) (b % 2 ^ 52) (omega arith))
