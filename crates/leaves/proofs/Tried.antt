-- What `quick` is left with: the whole number nearest to a root is told by its square.
use Rattle.std.proofs.Common.{◌≡◌, ℕ, zero, suc, ◌+◌, ◌-◌, ◌*◌, ◌/◌, ◌%◌, ◌^◌, ◌<◌, ◌≤◌, Bool, true, false, cond, not, T, ltb, leb, sym, ap, ◌∙◌, subst, mul_assoc, mul_comm, add-mul, add_comm, lt_of_not-le, mul-add, mul_left_comm, arith, ltb→lt, nltb→le, le-leb}
use native.Mathlib.Decide.{dec_le}
use lib.Ieee.{binary64, of_bits, odd}
use borrow.Author.Tests.{lt-leb}
use Rattle.numbers.specs.Root.{isqrt, near_root, root, root_units}
use Rattle.numbers.specs.RootLaws.{Root, isqrt_is, square_next, less_root, near_root_at}
use Rattle.numbers.specs.Encode.{encode}
use Rattle.numbers.specs.Decode.{read_mid, root_odd, root_units_at}
use Rattle.leaves.proofs.Near.{placed_same}

-- half a step to either side: q * q - q < n ≤ q * q + q
pub near_of : (q n : ℕ) → n < 4 ^ 53 → q * q < n + q → n ≤ q * q + q → q ≡ near_root 53 n
near_of q n h lo hi = go q lo hi (dec_le (q * q) n)
  where
    go : (q : ℕ) → q * q < n + q → n ≤ q * q + q → Dec (q * q ≤ n) → q ≡ near_root 53 n
    go q lo hi (yes l) =
        let near : n - q * q ≤ q = omega arith in
        sym (near_root_at 53 n q (n - q * q) h (omega arith) (omega arith) ∙ ap (λ (b : Bool). q + cond b 0 1) (le-leb (n - q * q) q near) ∙ (omega arith))
    go zero lo hi (no g) = absurd (g (omega arith))
    go (suc p) lo hi (no g) =
        let e : suc p ≡ p + 1 = omega arith in
        let s : suc p * suc p ≡ p * p + 2 * p + 1 = ap (λ (x : ℕ). x * x) e ∙ square_next p in
        let l : n < suc p * suc p = lt_of_not-le g in
        let far : p < n - p * p = omega arith in
        sym (near_root_at 53 n p (n - p * p) h (omega arith) (omega arith) ∙ ap (λ (b : Bool). p + cond b 0 1) (lt-leb (n - p * p) p far) ∙ sym e)

-- e is 2 ^ 56 + n - q * q
pub beside_near : (q e n : ℕ) → e + q * q ≡ 2 ^ 56 + n → n < 4 ^ 53 → e ≤ 2 ^ 56 + 2 + 3 * q → 2 ^ 56 + 2 < e + 3 * q → q + cond (ltb (2 ^ 56 + q) e) 1 0 + cond (ltb (2 ^ 56) (e + q)) 1 0 - 1 ≡ near_root 53 n
beside_near q e n s h hi lo =
    go (ltb (2 ^ 56 + q) e) (ltb (2 ^ 56) (e + q)) (ltb→lt (2 ^ 56 + q) e) (nltb→le (2 ^ 56 + q) e) (ltb→lt (2 ^ 56) (e + q)) (nltb→le (2 ^ 56) (e + q))
  where
    go : (a b : Bool) → (T a → 2 ^ 56 + q < e) → (T (not a) → e ≤ 2 ^ 56 + q) → (T b → 2 ^ 56 < e + q) → (T (not b) → e + q ≤ 2 ^ 56) → q + cond a 1 0 + cond b 1 0 - 1 ≡ near_root 53 n
    go true true u v x y =
        let m : q + 1 + 1 - 1 ≡ q + 1 = omega arith in
        let r = square_next q in
        m ∙ near_of (q + 1) n h (omega (arith, u tt)) (omega (arith, u tt))
    go true false u v x y =
        let none : ⊥ = omega (arith, u tt, y tt) in
        absurd none
    go false true u v x y =
        let m : q + 0 + 1 - 1 ≡ q = omega arith in
        m ∙ near_of q n h (omega (arith, x tt)) (omega (arith, v tt))
    go false false u v x y =
        let m : q + 0 + 0 - 1 ≡ q - 1 = omega arith in
        let p : q - 1 + 1 ≡ q = omega (arith, y tt) in
        let r : q * q ≡ (q - 1) * (q - 1) + 2 * (q - 1) + 1 = ap (λ (z : ℕ). z * z) (sym p) ∙ square_next (q - 1) in
        m ∙ near_of (q - 1) n h (omega (arith, y tt)) (omega (arith, y tt))

square_sum : (h l k : ℕ) → (h * k + l) * (h * k + l) ≡ h * h * (k * k) + 2 * h * l * k + l * l
square_sum h l k = simp (add-mul, mul-add, mul_assoc, mul_comm, mul_left_comm) (omega arith)

-- the square by halves of 26 digits
pub halves : (q : ℕ) → q * q ≡ q / 2 ^ 26 * (q / 2 ^ 26) * 2 ^ 52 + 2 * (q / 2 ^ 26) * (q % 2 ^ 26) * 2 ^ 26 + q % 2 ^ 26 * (q % 2 ^ 26)
halves q =
    let e : q ≡ q / 2 ^ 26 * 2 ^ 26 + q % 2 ^ 26 = omega arith in
    ap (λ (x : ℕ). x * x) e ∙ square_sum (q / 2 ^ 26) (q % 2 ^ 26) (2 ^ 26)

record Sized (q : ℕ) : Type 0 where
  pub low : 2 ^ 52 ≤ q
  pub high : q ≤ 2 ^ 53

sized_of : (w r : ℕ) (b : Bool) → 2 ^ 52 ≤ w → w < 2 ^ 54 → Root (w * 2 ^ 52) r → Sized (r + cond b 0 1)
sized_of w r b lo hi h =
    go b (less_root (2 ^ 52) (r + 1) (omega (arith, h.above))) (less_root r (2 ^ 53) (omega (arith, h.below)))
  where
    go : (b : Bool) → 2 ^ 52 < r + 1 → r < 2 ^ 53 → Sized (r + cond b 0 1)
    go true s t = record { low = omega arith; high = omega arith }
    go false s t = record { low = omega arith; high = omega arith }

sized : (w : ℕ) → 2 ^ 52 ≤ w → w < 2 ^ 54 → Sized (near_root 53 (w * 2 ^ 52))
unfolding near_root
sized w lo hi = sized_of w (isqrt 53 (w * 2 ^ 52)) (leb (w * 2 ^ 52 - isqrt 53 (w * 2 ^ 52) * isqrt 53 (w * 2 ^ 52)) (isqrt 53 (w * 2 ^ 52))) lo hi (isqrt_is 53 (w * 2 ^ 52) (small w hi))
  where
    small : (w : ℕ) → w < 2 ^ 54 → w * 2 ^ 52 < 4 ^ 53
    small w h = omega arith

-- one digit more, or none
pub record Evened (w : ℕ) : Type 0 where
  pub low : 2 ^ 52 ≤ w
  pub high : w < 2 ^ 54

pub evened : (d p : ℕ) → p < 2 → 2 ^ 52 ≤ d → d < 2 ^ 53 → Evened (d * 2 ^ p)
evened d zero h lo hi = record { low = omega arith; high = omega arith }
evened d (suc zero) h lo hi = record { low = omega arith; high = omega arith }
evened d (suc (suc p)) h lo hi =
    let none : ⊥ = omega arith in
    absurd none

-- the pattern that `root` makes of the nearest whole number
pub pattern_root : (b q : ℕ) → 2 ^ 52 ≤ b → b < 2047 * 2 ^ 52 → q ≡ near_root 53 ((b % 2 ^ 52 + 2 ^ 52) * 2 ^ ((b / 2 ^ 52 + 1021) % 2) * 2 ^ 52) → of_bits binary64 ((b / 2 ^ 52 + 1021) / 2 * 2 ^ 52 + q) ≡ root (of_bits binary64 b)
pattern_root b q lo hi near =
    encode q k (subst (λ (x : ℕ). 2 ^ 52 ≤ x) (sym near) z.low) (subst (λ (x : ℕ). x ≤ 2 ^ 53) (sym near) z.high) (omega arith)
    ∙ ap (λ (x : ℕ). odd 54 false x k 1074) near
    ∙ sym (root_units_at d (e + 1073) k p (omega arith) (omega arith) (omega arith) (omega arith))
    ∙ ap (λ (x : ℕ). root_units (x * 2 ^ (e + 1073))) (add_comm (b % 2 ^ 52) (2 ^ 52))
    ∙ ap root_units (placed_same (2 ^ 52 + b % 2 ^ 52) e (omega arith))
    ∙ sym (ap root (read_mid b lo hi) ∙ root_odd 53 (2 ^ 52 + b % 2 ^ 52) (e - 1) (omega arith))
  where
    e : ℕ
    e = b / 2 ^ 52

    d : ℕ
    d = b % 2 ^ 52 + 2 ^ 52

    k : ℕ
    k = (b / 2 ^ 52 + 1021) / 2

    p : ℕ
    p = (b / 2 ^ 52 + 1021) % 2

    z : Sized (near_root 53 (d * 2 ^ p * 2 ^ 52))
    z = let w = evened d p (omega arith) (omega arith) (omega arith) in sized (d * 2 ^ p) w.low w.high
