-- What a pattern is read as, and the root of it.
use Rattle.std.specs.Prelude.{◌≡◌, refl, Bool, false, cond, ℕ, zero, suc, ◌+◌, ◌-◌, ◌*◌, ◌/◌, ◌%◌, ◌^◌, ◌≤◌, ◌<◌, ℤ, leb, eqb}
use Rattle.std.proofs.Common.{sym, ap, subst, ◌∙◌, mul_comm, mul_assoc, mul-pos, mul-div_cancel, zero-mul, lt_irrefl, arith, pow_pos, pow-add, ne_eqb}
use Rattle.std.proofs.Math.Nat.{pow-succ'}
use Rattle.std.specs.Int.Count.{count_trailing_zeros}
use Rattle.std.proofs.lemmas.Bool.{lt-leb}
use Rattle.std.specs.Float.{nan, inf, fin, binary64}
use Rattle.std.specs.Float.Ieee.{up, down, minus, size, odd, of_bits, of_fields}
use Rattle.std.specs.Float.Ieee.Digits.{Equals, odd_val}
use Rattle.std.specs.Float.Ieee.Fits.{down_pos}
use Rattle.numbers.specs.Root.{near_root, root_units, root}
use Rattle.numbers.specs.Encode.{size_shifted}

-- ---- the three fields
pub read : (b : ℕ) {s : Bool} {x t : ℕ} → leb (2 ^ 63) b ≡ s → b % 2 ^ 63 / 2 ^ 52 ≡ x → b % 2 ^ 52 ≡ t → of_bits binary64 b ≡ of_fields binary64 s x t
unfolding of_bits
read b {s} {x} {t} p q r =
    ap (λ (a : Bool). of_fields binary64 a (b % 2 ^ 63 / 2 ^ 52) (b % 2 ^ 52)) p ∙ ap (λ (a : ℕ). of_fields binary64 s a (b % 2 ^ 52)) q ∙ ap (λ (a : ℕ). of_fields binary64 s x a) r

pub read_low : (b : ℕ) → b < 2 ^ 52 → of_bits binary64 b ≡ odd 53 false b 0 1074
unfolding of_fields
read_low b h = read b {s = false} {x = 0} {t = b} (lt-leb (2 ^ 63) b (omega arith)) (omega arith) (omega arith)

mid : (s : Bool) (x t : ℕ) → x < 2046 → of_fields binary64 s (suc x) t ≡ odd 53 s (2 ^ 52 + t) x 1074
unfolding of_fields
mid s x t h = ap (λ (a : Bool). cond a (cond (eqb t 0) (inf s) nan) (odd 53 s (2 ^ 52 + t) x 1074)) (ne_eqb (suc x) 2047 (λ e. far x h e))
  where
    far : (x : ℕ) → x < 2046 → suc x ≡ 2047 → ⊥
    far x h e = omega arith

pub read_mid : (b : ℕ) → 2 ^ 52 ≤ b → b < 2047 * 2 ^ 52 → of_bits binary64 b ≡ odd 53 false (2 ^ 52 + b % 2 ^ 52) (b / 2 ^ 52 - 1) 1074
read_mid b lo hi =
    read b {s = false} {x = suc (b / 2 ^ 52 - 1)} {t = b % 2 ^ 52} (lt-leb (2 ^ 63) b (omega arith)) (omega arith) refl
    ∙ mid false (b / 2 ^ 52 - 1) (b % 2 ^ 52) (omega arith)

-- ---- the root of a value that is a units
pub no_product : (a d : ℕ) → 0 < a → 0 < d → 0 ≡ a * d → ⊥
no_product a d p q e = lt_irrefl 0 (subst (λ (x : ℕ). 0 < x) (sym e) (mul-pos p q))

root_fin : (m : ℕ) (e : ℤ) (a : ℕ) → 0 < a → Equals (fin false m e) a (2 ^ 1074) → root (fin false m e) ≡ root_units (a * 2 ^ 1074)
unfolding root
root_fin zero e a p h = absurd (no_product a (down e) p (down_pos e) (sym (ap (λ (x : ℕ). x * 2 ^ 1074) (zero-mul (up e)) ∙ zero-mul (2 ^ 1074)) ∙ h))
root_fin (suc m) e a p h = ap (λ (n : ℕ). root_units (n * 2 ^ 1074)) (ap (λ (x : ℕ). x / down e) h ∙ mul-div_cancel a (down_pos e))

pub root_odd : (d q k : ℕ) → 0 < q → root (odd d false q k 1074) ≡ root_units (q * 2 ^ k * 2 ^ 1074)
unfolding odd
root_odd d zero k h = absurd (lt_irrefl 0 h)
root_odd d (suc q) k h = root_fin (suc q / 2 ^ count_trailing_zeros d (suc q)) (minus (k + count_trailing_zeros d (suc q)) 1074) (suc q * 2 ^ k) (mul-pos h (pow_pos k)) (odd_val d false (suc q) k 1074)

-- ---- the root of d * 2 ^ a squares of the unit
four_pow : (k : ℕ) → 4 ^ k ≡ 2 ^ (2 * k)
four_pow zero = refl
four_pow (suc k) = pow-succ' 4 k ∙ ap (λ (x : ℕ). 4 * x) (four_pow k) ∙ sym (ap (λ (x : ℕ). 2 ^ x) (more k) ∙ pow-add 2 2 (2 * k))
  where
    more : (k : ℕ) → 2 * suc k ≡ 2 + 2 * k
    more k = omega arith

pub apart : (d k p : ℕ) → d * 2 ^ (52 + (2 * k + p)) ≡ d * 2 ^ p * 2 ^ 52 * 4 ^ k
apart d k p = rw (four_pow, pow-add 2 52 (2 * k + p), pow-add 2 (2 * k) p) (simp (mul_assoc, mul_comm))

pub root_units_at : (d a k p : ℕ) → 2 ^ 52 ≤ d → d < 2 ^ 53 → a ≡ 52 + (2 * k + p) → p < 2 → root_units (d * 2 ^ a) ≡ odd 54 false (near_root 53 (d * 2 ^ p * 2 ^ 52)) k 1074
unfolding root_units
root_units_at d a k p lo hi e h =
    let z : (size (d * 2 ^ a) + 1 - 106) / 2 ≡ k = omega (arith, size_shifted d a lo hi) in
    let n : d * 2 ^ a / 4 ^ k ≡ d * 2 ^ p * 2 ^ 52 = ap (λ (x : ℕ). d * 2 ^ x / 4 ^ k) e ∙ ap (λ (x : ℕ). x / 4 ^ k) (apart d k p) ∙ mul-div_cancel (d * 2 ^ p * 2 ^ 52) (subst (λ (x : ℕ). 0 < x) (sym (four_pow k)) (pow_pos (2 * k))) in
    ap (λ (x : ℕ). odd 54 false (near_root 53 (d * 2 ^ a / 4 ^ x)) x 1074) z ∙ ap (λ (x : ℕ). odd 54 false (near_root 53 x) k 1074) n
