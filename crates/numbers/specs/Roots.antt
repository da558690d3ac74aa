-- The laws of `root`: what it gives is the correctly rounded root, and nothing else is; it goes up with its operand, and a bound's digits are halved.
use Rattle.std.specs.Prelude.{◌≡◌, refl, Bool, true, ◌||◌, ℕ, zero, suc, ◌+◌, ◌*◌, ◌^◌, ◌≤◌, ◌<◌, ℤ, pos, negsuc, T, eqb, Float}
use Rattle.std.proofs.Common.{sym, ap, ◌∙◌, arith, pow_pos, pow-add, pow_mono, eqb→eq, ltb→lt, lt→ltb}
use Rattle.std.proofs.Math.Bool.{false}
use Rattle.std.specs.Bool.{beq}
use native.Mathlib.Nat.{zero-lt-suc, one-mul, mul_right_comm, mul-pos, mul-le-mul_right, le_trans, le_of_eq, lt_of_not-le, not-le_of_lt, le-div_iff_mul-le}
use Rattle.std.proofs.Math.Decide.{dec_le}
use Rattle.std.specs.Float.{nan, inf, fin, binary64}
use Rattle.std.specs.Float.Ieee.{up, down, odd, fits, lt, le, eq}
use Rattle.std.specs.Float.Ieee.Fits.{and_l, up_pos, down_pos}
use Rattle.std.specs.Float.Ieee.Bits.{is_false}
use Rattle.std.specs.Float.Ieee.Nearest.{div_mono}
use Rattle.std.specs.Float.Ieee.Positive.{positive}
use Rattle.numbers.specs.Num.{zero64}
use Rattle.numbers.specs.Root.{root, root_units}
use Rattle.numbers.specs.Order.{negative, finite}
use Rattle.numbers.specs.Value.{units_of, Nearer, IsRoot}
use Rattle.numbers.specs.Units.{fine, same_units}
use Rattle.numbers.specs.Fraction.{le→cross, cross→le}

-- ---- the value is above zero
down_le : (s : Bool) (m : ℕ) (e : ℤ) → T (fits binary64 (fin s m e)) → down e ≤ 2 ^ 1074
down_le s m (pos k) f = pow_pos 1074
down_le s m (negsuc k) f = pow_mono (fine s m k f)

pub some_units : (m : ℕ) (e : ℤ) → T (fits binary64 (fin false (suc m) e)) → 0 < units_of (fin false (suc m) e)
unfolding units_of
some_units m e f =
    (le-div_iff_mul-le (down_pos e)).1
    (le_trans (le_of_eq (one-mul (down e))) (le_trans (down_le false (suc m) e f)
    (le_trans (le_of_eq (sym (one-mul (2 ^ 1074)))) (mul-le-mul_right (2 ^ 1074) (mul-pos (zero-lt-suc m) (up_pos e))))))

pub odd_fine : (d : ℕ) (s : Bool) (q k l : ℕ) → T (finite (odd d s q k l))
unfolding odd finite
odd_fine d s zero k l = tt
odd_fine d s (suc q) k l = tt

pub odd_negative : (d : ℕ) (s : Bool) (q k l : ℕ) → negative (odd d s q k l) ≡ s
unfolding odd negative
odd_negative d s zero k l = refl
odd_negative d s (suc q) k l = refl

-- 2 ^ 104 * 4 ^ k ≤ n < 2 ^ 3172
pub small_places : (m k n : ℕ) → 2 ^ 104 ≤ m → n ≡ m * (2 ^ k * 2 ^ k) → n < 2 ^ 3172 → k ≤ 2000
small_places m k n low e h = go (dec_le k 2000)
  where
    far : (k : ℕ) → (k ≤ 2000 → ⊥) → 3172 ≤ 104 + (k + k)
    far k g = omega arith

    go : Dec (k ≤ 2000) → k ≤ 2000
    go (yes l) = l
    go (no g) =
        absurd (not-le_of_lt h (le_trans (pow_mono (far k g))
        (le_trans (le_of_eq (pow-add 2 104 (k + k) ∙ ap (λ (x : ℕ). 2 ^ 104 * x) (pow-add 2 k k))) (le_trans (mul-le-mul_right (2 ^ k * 2 ^ k) low) (le_of_eq (sym e))))))

pub positive_lt : (v : Float) → T (positive v) → T (lt zero64 v)
unfolding lt
positive_lt nan h = absurd h
positive_lt (inf s) h = absurd h
positive_lt (fin true m e) h = absurd h
positive_lt (fin false m e) h = lt→ltb (0 * down e) (m * up e * 1) (omega (arith, mul-pos (ltb→lt 0 m h) (up_pos e)))

pub root_opened : (m : ℕ) (e : ℤ) → root (fin false (suc m) e) ≡ root_units (units_of (fin false (suc m) e) * 2 ^ 1074)
unfolding root units_of
root_opened m e = refl

-- ---- the operand, by cases
pub nothing_below : (m : ℕ) (e : ℤ) → T (le zero64 (fin true (suc m) e)) → ⊥
unfolding finite
nothing_below m e h = omega (arith, le→cross zero64 (fin true (suc m) e) tt tt h, mul-pos (zero-lt-suc m) (up_pos e))

pub not_above : (s : Bool) (e : ℤ) → T (lt zero64 (fin s zero e)) → ⊥
unfolding lt
not_above true e h = h
not_above false e h = omega (arith, ltb→lt (0 * down e) (0 * up e * 1) h)

-- ---- what is not negative is not below a zero
pub zero_le : (s : Bool) (e : ℤ) (v : Float) → T (finite v) → negative v ≡ false → T (le (fin s 0 e) v)
unfolding finite negative
zero_le s e nan g h = absurd g
zero_le s e (inf t) g h = absurd g
zero_le true e (fin t n d) g h = cross→le (fin true 0 e) (fin t n d) tt tt (rw h (omega arith))
zero_le false e (fin t n d) g h = cross→le (fin false 0 e) (fin t n d) tt tt (rw h (omega arith))

-- a zero is its own root
pub root_of_zero : (x : Float) → T (eq x zero64) → root x ≡ x
unfolding eq root
root_of_zero nan h = refl
root_of_zero (inf s) h = absurd h
root_of_zero (fin s zero e) h = refl
root_of_zero (fin s (suc m) e) h = absurd (some (suc m * up e) (mul-pos (zero-lt-suc m) (up_pos e)) (eqb→eq (suc m * up e * 1) (0 * down e) (and_l (eqb (suc m * up e * 1) (0 * down e)) (beq s false || eqb (suc m * up e * 1) 0) h)))
  where
    some : (a : ℕ) → 0 < a → a * 1 ≡ 0 * down e → ⊥
    some a p q = omega arith

-- ---- nothing else is the root, and a larger operand has no smaller one
pub nearer_mono : (n n' r r' : ℕ) → n ≤ n' → Nearer n r r' → Nearer n' r' r → r ≤ r'
nearer_mono n n' r r' h p q = go (dec_le r r')
  where
    go : Dec (r ≤ r') → r ≤ r'
    go (yes l) = l
    go (no g) = let l : r' < r = lt_of_not-le g in omega (arith, p.under l, q.over l)

pub root_unique : (x r r' : Float) → IsRoot x r → IsRoot x r' → r ≡ r'
root_unique x r r' p q =
    let n = units_of x * 2 ^ 1074 in
    let a = nearer_mono n n (units_of r) (units_of r') (native.Mathlib.Nat.le_refl n) (p.nearest r' q.fit q.fine) (q.nearest r p.fit p.fine) in
    let b = nearer_mono n n (units_of r') (units_of r) (native.Mathlib.Nat.le_refl n) (q.nearest r p.fit p.fine) (p.nearest r' q.fit q.fine) in
    same_units r r' p.fit q.fit p.fine q.fine (is_false (negative r) p.sign ∙ sym (is_false (negative r') q.sign)) (native.Mathlib.Nat.le_antisymm a b)

pub units_mono : (m n : ℕ) (e d : ℤ) → T (le (fin false m e) (fin false n d)) → units_of (fin false m e) ≤ units_of (fin false n d)
unfolding units_of finite
units_mono m n e d h =
    div_mono (m * up e * 2 ^ 1074) (down e) (n * up d * 2 ^ 1074) (down d) (down_pos e) (down_pos d)
    (le_trans (le_of_eq (mul_right_comm (m * up e) (2 ^ 1074) (down d))) (le_trans (mul-le-mul_right (2 ^ 1074) cross) (le_of_eq (mul_right_comm (n * up d) (down e) (2 ^ 1074)))))
  where
    cross : m * up e * down d ≤ n * up d * down e
    cross = omega (arith, le→cross (fin false m e) (fin false n d) tt tt h)

pub not_down : (m : ℕ) (e : ℤ) (t : Bool) (d : ℤ) → T (le (fin false (suc m) e) (fin t zero d)) → ⊥
unfolding finite
not_down m e true d h = omega (arith, le→cross (fin false (suc m) e) (fin true zero d) tt tt h, mul-pos (mul-pos (zero-lt-suc m) (up_pos e)) (down_pos d))
not_down m e false d h = omega (arith, le→cross (fin false (suc m) e) (fin false zero d) tt tt h, mul-pos (mul-pos (zero-lt-suc m) (up_pos e)) (down_pos d))
