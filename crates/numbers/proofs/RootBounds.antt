-- Bounds of a root, and a root against a number. Assumes nothing.
use Rattle.std.specs.Prelude.{◌≡◌, ℤ, Float}
use Rattle.std.proofs.Common.{sym, ◌∙◌, subst, arith, lit<, pow_pos, pow-add}
use Rattle.std.proofs.Math.Path.{ap}
use mathlib.Core.Bool.{Bool, true, false}
use Prim.Native.Nat.{ℕ, zero, suc, ◌+◌, ◌*◌, ◌^◌, ◌≤◌, ◌<◌, zero-le}
use native.Mathlib.Nat.{zero-mul, one-mul, mul-pos, mul-le-mul_right, le_of_mul-le-mul_right, le_trans, le_of_eq, lt_of_not-le, le_of_lt}
use Rattle.std.proofs.Math.Decide.{dec_le}
use Rattle.std.proofs.Math.Dec.{T}
use Rattle.std.specs.Float.{nan, inf, fin, binary64}
use Rattle.std.specs.Float.Ieee.{up, down, round, fits, lt, le}
use Rattle.std.specs.Float.Ieee.Fits.{down_pos, round-fits}
use Rattle.std.specs.Float.Ieee.Exact.{HasValue}
use Rattle.std.specs.Float.Ieee.Order.{le_of_values}
use Rattle.numbers.specs.Num.{◌⊗◌, zero64}
use Rattle.numbers.specs.Root.{root}
use Rattle.numbers.specs.Order.{negative, finite}
use Rattle.numbers.specs.Value.{units_of, Within, AtLeast}
use Rattle.numbers.specs.Units.{units_exact, units_of_lem, units_within, own_units}
use Rattle.numbers.specs.FloatOrder as order
use Rattle.numbers.specs.Rounded.{rounded_le, own_rounded, mul_rounded}
use Rattle.numbers.specs.Roots.{nothing_below, not_above}
use Rattle.numbers.proofs.Roots.{above_is, above_negative}
use Rattle.numbers.specs.Bounds.{power, least}
use Rattle.numbers.specs.RootBounds.{le_square, nearer_bottom, nearer_top, square_le, within_units}

pub within_root : (n : ℕ) (x : Float) → n ≤ 1000 → T (fits binary64 x) → T (le zero64 x) → Within (n + n) x → Within n (root x)
within_root n nan l f p h = unfold Within in absurd h
within_root n (inf s) l f p h = unfold Within in absurd h
within_root n (fin s zero e) l f p h = unfold root Within in le_trans (le_of_eq (zero-mul (up e))) zero-le
within_root n (fin true (suc m) e) l f p h = absurd (nothing_below m e p)
within_root n (fin false (suc m) e) l f p h =
    let x = fin false (suc m) e in
    let y = round binary64 false (2 ^ n) 1 in
    let i = above_is m e f in
    let u = units_of_lem y false (2 ^ n) 1 (lit< tt) (round-fits binary64 false (2 ^ n) 1) (power n l) in
    let v : units_of y ≡ 2 ^ n * 2 ^ 1074 = sym (native.Mathlib.Nat.mul-one (units_of y)) ∙ u.0 in
    within_units n (root x) i.fit i.fine
    (le_trans (nearer_top (units_of x * 2 ^ 1074) (units_of (root x)) (units_of y) (square (units_of x) (2 ^ n) (2 ^ 1074) (units_of y) v (subst (λ (k : ℕ). units_of x ≤ k * 2 ^ 1074) (pow-add 2 n n) (units_within (n + n) false (suc m) e f h)))
    (i.nearest y (round-fits binary64 false (2 ^ n) 1) u.1)) (le_of_eq v))
  where
    square : (u a l y : ℕ) → y ≡ a * l → u ≤ a * a * l → u * l ≤ y * y
    square u a l y e h = rw e (omega (arith, mul-le-mul_right l h))

pub atleast_root : (j : ℕ) (x : Float) → j ≤ 1000 → T (fits binary64 x) → AtLeast (j + j) x → AtLeast j (root x)
unfolding AtLeast
atleast_root j nan l f h = absurd h
atleast_root j (inf s) l f h = absurd h
atleast_root j (fin true m e) l f h = absurd h
atleast_root j (fin false zero e) l f h = absurd (none (up e) (down e) (2 ^ (j + j)) (down_pos e) h)
  where
    none : (a d p : ℕ) → 0 < d → d ≤ 0 * a * p → ⊥
    none a d p D h = omega arith
atleast_root j (fin false (suc m) e) l f h =
    let x = fin false (suc m) e in
    let y = round binary64 false 1 (2 ^ j) in
    let i = above_is m e f in
    let u = units_of_lem y false 1 (2 ^ j) (pow_pos j) (round-fits binary64 false 1 (2 ^ j)) (least j l) in
    reaches j (root x) i.fit i.fine (above_negative m e f)
    (le_trans (le_of_eq (sym (one-mul (2 ^ 1074)) ∙ sym u.0))
    (mul-le-mul_right (2 ^ j) (nearer_bottom (units_of x * 2 ^ 1074) (units_of (root x)) (units_of y)
    (square (units_of x) (2 ^ j) (2 ^ 1074) (units_of y) (pow_pos j) u.0 (grown (suc m * up e) (down e) (units_of x) (2 ^ j) (2 ^ 1074) (down_pos e) (units_exact false (suc m) e f) (subst (λ (k : ℕ). down e ≤ suc m * up e * k) (pow-add 2 j j) h)))
    (i.nearest y (round-fits binary64 false 1 (2 ^ j)) u.1))))
  where
    grown : (a d u b l : ℕ) → 0 < d → a * l ≡ u * d → d ≤ a * (b * b) → l ≤ u * (b * b)
    grown a d u b l D e h = le_of_mul-le-mul_right {k = d} (omega (arith, mul-le-mul_right l h, ap (λ (k : ℕ). k * (b * b)) e)) D

    square : (u b l y : ℕ) → 0 < b → y * b ≡ 1 * l → l ≤ u * (b * b) → y * y ≤ u * l
    square u b l y B e h = le_of_mul-le-mul_right {k = b * b} (omega (arith, mul-le-mul_right l h, ap (λ (k : ℕ). k * (y * b)) e, ap (λ (k : ℕ). l * k) e)) (mul-pos B B)

    reaches : (j : ℕ) (v : Float) → T (fits binary64 v) → T (finite v) → negative v ≡ false → 2 ^ 1074 ≤ units_of v * 2 ^ j → AtLeast j v
    reaches j nan f g s h = unfold finite in absurd g
    reaches j (inf t) f g s h = unfold finite in absurd g
    reaches j (fin true m e) f g s h = absurd (mathlib.Core.Bool.true≢false (unfold negative in s))
    reaches j (fin false m e) f g s h = down_to (m * up e) (down e) (units_of (fin false m e)) (2 ^ j) (2 ^ 1074) (pow_pos 1074) (units_exact false m e f) h
      where
        down_to : (a d u b l : ℕ) → 0 < l → a * l ≡ u * d → l ≤ u * b → d ≤ a * b
        down_to a d u b l L e h = le_of_mul-le-mul_right {k = l} (omega (arith, mul-le-mul_right d h, ap (λ (k : ℕ). k * b) e)) L

module _ (m n : ℕ) (e d : ℤ) (f : T (fits binary64 (fin false (suc m) e))) (g : T (fits binary64 (fin false n d))) where
  abbrev x : Float
  x = fin false (suc m) e

  abbrev y : Float
  y = fin false n d

  above_square : units_of y * units_of y ≤ units_of x * 2 ^ 1074 → T (le (y ⊗ y) x)
  unfolding finite
  above_square h =
      rounded_le (mul_rounded y y tt tt) (own_rounded x tt f) (mul-pos (down_pos d) (down_pos d)) (down_pos e)
      (omega (arith, square_le (suc m * up e) (down e) (units_of x) (n * up d) (down d) (units_of y) (2 ^ 1074) (pow_pos 1074) (units_exact false (suc m) e f) (units_exact false n d g) h))

  below_square : units_of x * 2 ^ 1074 ≤ units_of y * units_of y → T (le x (y ⊗ y))
  unfolding finite
  below_square h =
      rounded_le (own_rounded x tt f) (mul_rounded y y tt tt) (down_pos e) (mul-pos (down_pos d) (down_pos d))
      (omega (arith, le_square (suc m * up e) (down e) (units_of x) (n * up d) (down d) (units_of y) (2 ^ 1074) (pow_pos 1074) (units_exact false (suc m) e f) (units_exact false n d g) h))

  root_value : HasValue (root x) false (units_of (root x)) (2 ^ 1074)
  root_value = subst (λ (s : Bool). HasValue (root x) s (units_of (root x)) (2 ^ 1074)) (above_negative m e f) (own_units (root x) (above_is m e f).fit (above_is m e f).fine)

  y_value : HasValue y false (units_of y) (2 ^ 1074)
  unfolding negative finite
  y_value = own_units y g tt

  fine_under : T (lt x (y ⊗ y)) → T (le (root x) y)
  unfolding finite
  fine_under h = go (dec_le (units_of x * 2 ^ 1074) (units_of y * units_of y))
    where
      go : Dec (units_of x * 2 ^ 1074 ≤ units_of y * units_of y) → T (le (root x) y)
      go (yes l) =
          le_of_values (root x) y (units_of (root x)) (2 ^ 1074) (units_of y) (2 ^ 1074) (pow_pos 1074) (pow_pos 1074) root_value y_value
          (mul-le-mul_right (2 ^ 1074) (nearer_top (units_of x * 2 ^ 1074) (units_of (root x)) (units_of y) l ((above_is m e f).nearest y g tt)))
      go (no k) = absurd (order.le_lt_clash (y ⊗ y) x (above_square (le_of_lt (lt_of_not-le k))) h)

  fine_over : T (lt (y ⊗ y) x) → T (le y (root x))
  unfolding finite
  fine_over h = go (dec_le (units_of y * units_of y) (units_of x * 2 ^ 1074))
    where
      go : Dec (units_of y * units_of y ≤ units_of x * 2 ^ 1074) → T (le y (root x))
      go (yes l) =
          le_of_values y (root x) (units_of y) (2 ^ 1074) (units_of (root x)) (2 ^ 1074) (pow_pos 1074) (pow_pos 1074) y_value root_value
          (mul-le-mul_right (2 ^ 1074) (nearer_bottom (units_of x * 2 ^ 1074) (units_of (root x)) (units_of y) l ((above_is m e f).nearest y g tt)))
      go (no k) = absurd (order.le_lt_clash x (y ⊗ y) (below_square (le_of_lt (lt_of_not-le k))) h)

pub root_under : (x y : Float) → T (fits binary64 x) → T (fits binary64 y) → T (finite y) → T (lt zero64 x) → T (lt zero64 y) → T (lt x (y ⊗ y)) → T (le (root x) y)
root_under x nan f g k p q h = unfold finite in absurd k
root_under x (inf s) f g k p q h = unfold finite in absurd k
root_under x (fin true n d) f g k p q h = unfold lt in absurd q
root_under nan (fin false n d) f g k p q h = unfold lt in absurd p
root_under (inf true) (fin false n d) f g k p q h = unfold lt in absurd p
root_under (inf false) (fin false n d) f g k p q h =
    let w = fin false n d ⊗ fin false n d in
    absurd (order.le_lt_clash w (inf false) (order.le_inf w (order.le_right (inf false) w (order.lt_le (inf false) w h))) h)
root_under (fin s zero e) (fin false n d) f g k p q h = absurd (not_above s e p)
root_under (fin true (suc m) e) (fin false n d) f g k p q h = unfold lt in absurd p
root_under (fin false (suc m) e) (fin false n d) f g k p q h = fine_under m n e d f g h

pub root_over : (x y : Float) → T (fits binary64 x) → T (fits binary64 y) → T (finite y) → T (lt zero64 x) → T (lt zero64 y) → T (lt (y ⊗ y) x) → T (le y (root x))
root_over x nan f g k p q h = unfold finite in absurd k
root_over x (inf s) f g k p q h = unfold finite in absurd k
root_over x (fin true n d) f g k p q h = unfold lt in absurd q
root_over nan (fin false n d) f g k p q h = unfold lt in absurd p
root_over (inf true) (fin false n d) f g k p q h = unfold lt in absurd p
root_over (inf false) (fin false n d) f g k p q h = unfold root finite in order.le_inf (fin false n d) (order.finite_number (fin false n d) tt)
root_over (fin s zero e) (fin false n d) f g k p q h = absurd (not_above s e p)
root_over (fin true (suc m) e) (fin false n d) f g k p q h = unfold lt in absurd p
root_over (fin false (suc m) e) (fin false n d) f g k p q h = fine_over m n e d f g h
