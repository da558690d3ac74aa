-- Each finite f64 is a whole number of units, of at most 53 digits and zeros after them, and its sign and its units fix it.
use Rattle.std.specs.Prelude.{◌≡◌, refl, Bool, ◌&&◌, cond, ℕ, zero, suc, ◌+◌, ◌-◌, ◌*◌, ◌/◌, ◌%◌, ◌^◌, ◌≤◌, ◌<◌, ℤ, pos, negsuc, T, leb, ltb, eqb, Float}
use Rattle.std.proofs.Common.{sym, ap, subst, ◌∙◌, arith, pow_pos, pow-add, leb→le, ltb→lt, eqb→eq}
use native.Mathlib.Nat.{mul_assoc, mul-one, le_of_eq, lt_of_lt_of_le, lt_of_le_of_lt, lt_of_not-le, not-le_of_lt, mul-lt-mul_of_pos_right, lt_of_mul-lt-mul_right, mul-div_cancel, mul-pos, mul-le-mul_right, le_of_mul-le-mul_right, eq_of_mul-eq-mul_right, div-one}
use Rattle.std.proofs.Math.Decide.{dec_le}
use Rattle.std.proofs.Math.Pow.{pow-lt}
use Rattle.std.specs.Float.{nan, inf, fin, binary64}
use Rattle.std.specs.Float.Ieee.{up, down, size, fits, to_bits, of_bits}
use Rattle.std.specs.Float.Ieee.Fits.{and_l, and_r, down_pos}
use Rattle.std.specs.Float.Ieee.Bits.{of_bits-to_bits}
use Rattle.std.specs.Float.Ieee.Exact.{HasValue}
use Rattle.numbers.specs.Order.{negative, finite}
use Rattle.numbers.specs.Value.{units_of, Within}

pub pow_le_back : (i j : ℕ) → 2 ^ i ≤ 2 ^ j → i ≤ j
pow_le_back i j h = go (dec_le i j)
  where
    go : Dec (i ≤ j) → i ≤ j
    go (yes l) = l
    go (no g) = absurd (not-le_of_lt (pow-lt (lt_of_not-le g)) h)

-- ---- what `fits` says of the digits and of the exponent
pub short : (s : Bool) (m : ℕ) (e : ℤ) → T (fits binary64 (fin s m e)) → m < 2 ^ 53
unfolding fits
short s zero e h = pow_pos 53
short s (suc m) e h =
    let A = eqb (suc m % 2) 1 in
    let B = ltb (suc m) (2 ^ 53) in
    let C = leb (down e) (2 ^ 1074) in
    let D = ltb (suc m * up e) (2 ^ 1024 * down e) in
    ltb→lt (suc m) (2 ^ 53) (and_r A B (and_l (A && B) C (and_l (A && B && C) D h)))

pub fine : (s : Bool) (m k : ℕ) → T (fits binary64 (fin s m (negsuc k))) → suc k ≤ 1074
unfolding fits
fine s zero k h = absurd (odd_one (eqb→eq (1 * 2 ^ suc k) 1 h))
  where
    odd_one : 1 * 2 ^ suc k ≡ 1 → ⊥
    odd_one e = omega arith
fine s (suc m) k h =
    let A = eqb (suc m % 2) 1 in
    let B = ltb (suc m) (2 ^ 53) in
    let C = leb (2 ^ suc k) (2 ^ 1074) in
    let D = ltb (suc m * 1) (2 ^ 1024 * 2 ^ suc k) in
    pow_le_back (suc k) 1074 (leb→le (2 ^ suc k) (2 ^ 1074) (and_r (A && B) C (and_l (A && B && C) D h)))

pub bounded : (s : Bool) (m : ℕ) (e : ℤ) → T (fits binary64 (fin s m e)) → m * up e < 2 ^ 1024 * down e
unfolding fits
bounded s zero e h = lt_of_le_of_lt (le_of_eq (native.Mathlib.Nat.zero-mul (up e))) (mul-pos (pow_pos 1024) (down_pos e))
bounded s (suc m) e h =
    let A = eqb (suc m % 2) 1 in
    let B = ltb (suc m) (2 ^ 53) in
    let C = leb (down e) (2 ^ 1074) in
    let D = ltb (suc m * up e) (2 ^ 1024 * down e) in
    ltb→lt (suc m * up e) (2 ^ 1024 * down e) (and_r (A && B && C) D h)

-- 2 ^ -(suc k) is 2 ^ (1074 - suc k) units
apart : (m k : ℕ) → suc k ≤ 1074 → m * 1 * 2 ^ 1074 ≡ m * 2 ^ (1074 - suc k) * 2 ^ suc k
apart m k h = rw mul-one (ap (λ (x : ℕ). m * 2 ^ x) (back k h) ∙ ap (λ (x : ℕ). m * x) (pow-add 2 (1074 - suc k) (suc k)) ∙ sym (mul_assoc m (2 ^ (1074 - suc k)) (2 ^ suc k)))
  where
    back : (k : ℕ) → suc k ≤ 1074 → 1074 ≡ (1074 - suc k) + suc k
    back k h = omega arith

-- ---- the division in `units_of` leaves no rest
pub units_exact : (s : Bool) (m : ℕ) (e : ℤ) → T (fits binary64 (fin s m e)) → m * up e * 2 ^ 1074 ≡ units_of (fin s m e) * down e
unfolding units_of
units_exact s m (pos k) h = sym (mul-one (m * 2 ^ k * 2 ^ 1074 / 1) ∙ div-one (m * 2 ^ k * 2 ^ 1074))
units_exact s m (negsuc k) h =
    let p = apart m k (fine s m k h) in
    p ∙ ap (λ (x : ℕ). x * 2 ^ suc k) (sym (ap (λ (x : ℕ). x / 2 ^ suc k) p ∙ mul-div_cancel (m * 2 ^ (1074 - suc k)) (pow_pos (suc k))))

-- the units of a value a / c
pub units_of_lem : (v : Float) (s : Bool) (a c : ℕ) → 0 < c → T (fits binary64 v) → HasValue v s a c → (units_of v * c ≡ a * 2 ^ 1074) × T (finite v)
unfolding finite
units_of_lem nan s a c C f h = absurd h
units_of_lem (inf t) s a c C f h = absurd h
units_of_lem (fin t m e) s a c C f h = (cross (m * up e) (down e) (units_of (fin t m e)) (2 ^ 1074) (down_pos e) (units_exact t m e f) h.1, tt)
  where
    cross : (x d u l : ℕ) → 0 < d → x * l ≡ u * d → x * c ≡ a * d → u * c ≡ a * l
    cross x d u l D p q = eq_of_mul-eq-mul_right d D (u * c) (a * l) (omega (arith, ap (λ (z : ℕ). z * c) p, ap (λ (z : ℕ). z * l) q))

-- as many ones, as many units
pub units_within : (n : ℕ) (s : Bool) (m : ℕ) (e : ℤ) → T (fits binary64 (fin s m e)) → Within n (fin s m e) → units_of (fin s m e) ≤ 2 ^ n * 2 ^ 1074
unfolding Within
units_within n s m e f h = scale_up (m * up e) (down e) (units_of (fin s m e)) (2 ^ n) (2 ^ 1074) (down_pos e) (units_exact s m e f) h
  where
    scale_up : (a d u w l : ℕ) → 0 < d → a * l ≡ u * d → a ≤ w * d → u ≤ w * l
    scale_up a d u w l D e h = le_of_mul-le-mul_right {k = d} (omega (arith, mul-le-mul_right l h)) D

pub own_units : (x : Float) → T (fits binary64 x) → T (finite x) → HasValue x (negative x) (units_of x) (2 ^ 1074)
unfolding finite negative
own_units nan f h = h
own_units (inf s) f h = h
own_units (fin s m e) f h = (refl, units_exact s m e f)

-- digits and zeros
pub record Grid (y : ℕ) : Type 0 where
  pub digits : ℕ
  pub places : ℕ
  pub short : digits < 2 ^ 53
  pub is : y ≡ digits * 2 ^ places

pub grid : (y : Float) → T (fits binary64 y) → Grid (units_of y)
unfolding units_of
grid nan h = record { digits = 0; places = 0; short = pow_pos 53; is = refl }
grid (inf s) h = record { digits = 0; places = 0; short = pow_pos 53; is = refl }
grid (fin s m (pos k)) h = record {
  digits = m;
  places = k + 1074;
  short = short s m (pos k) h;
  is = div-one (m * 2 ^ k * 2 ^ 1074) ∙ mul_assoc m (2 ^ k) (2 ^ 1074) ∙ ap (λ (x : ℕ). m * x) (sym (pow-add 2 k 1074));
}
grid (fin s m (negsuc k)) h = record {
  digits = m;
  places = 1074 - suc k;
  short = short s m (negsuc k) h;
  is = ap (λ (x : ℕ). x / 2 ^ suc k) (apart m k (fine s m k h)) ∙ mul-div_cancel (m * 2 ^ (1074 - suc k)) (pow_pos (suc k));
}

-- below 2 ^ 1024
pub units_lt : (x : Float) → T (fits binary64 x) → units_of x < 2 ^ 1024 * 2 ^ 1074
unfolding units_of
units_lt nan h = mul-pos (pow_pos 1024) (pow_pos 1074)
units_lt (inf s) h = mul-pos (pow_pos 1024) (pow_pos 1074)
units_lt (fin s m e) h =
    lt_of_mul-lt-mul_right (down e)
    (lt_of_le_of_lt (le_of_eq (sym (units_exact s m e h)))
    (lt_of_lt_of_le (mul-lt-mul_of_pos_right (bounded s m e h) (pow_pos 1074)) (le_of_eq (native.Mathlib.Nat.mul_right_comm (2 ^ 1024) (down e) (2 ^ 1074)))))

-- ---- a value is its sign and its units
same_bits : (s : Bool) (m n : ℕ) (e d : ℤ) → units_of (fin s m e) ≡ units_of (fin s n d) → to_bits binary64 (fin s m e) ≡ to_bits binary64 (fin s n d)
unfolding to_bits units_of
same_bits s m n e d h = ap (λ (u : ℕ). cond s (2 ^ 63) 0 + (size u - 53) * 2 ^ 52 + u / 2 ^ (size u - 53)) h

pub same_value : (s : Bool) (m n : ℕ) (e d : ℤ) → T (fits binary64 (fin s m e)) → T (fits binary64 (fin s n d)) → units_of (fin s m e) ≡ units_of (fin s n d) → fin s m e ≡ fin s n d
same_value s m n e d f g h = sym (of_bits-to_bits binary64 (fin s m e) f) ∙ ap (of_bits binary64) (same_bits s m n e d h) ∙ of_bits-to_bits binary64 (fin s n d) g

pub same_units : (x y : Float) → T (fits binary64 x) → T (fits binary64 y) → T (finite x) → T (finite y) → negative x ≡ negative y → units_of x ≡ units_of y → x ≡ y
unfolding finite negative
same_units nan y f g p q s u = absurd p
same_units (inf t) y f g p q s u = absurd p
same_units (fin t m e) nan f g p q s u = absurd q
same_units (fin t m e) (inf r) f g p q s u = absurd q
same_units (fin t m e) (fin r n d) f g p q s u =
    ap (λ (b : Bool). fin b m e) s
    ∙ same_value r m n e d (subst (λ (b : Bool). T (fits binary64 (fin b m e))) s f) g (unfold units_of in u)
