-- The root of a square. Assumes nothing.
use Rattle.std.specs.Prelude.{◌≡◌, refl, true, T, ℤ, Float}
use Rattle.std.proofs.Common.{sym, subst, ◌∙◌, mul_assoc, mul-pos, mul-le-mul, mul-le-mul_right, le_of_eq, lt_of_lt_of_le, le-div_iff_mul-le, pow_pos}
use Rattle.std.proofs.Math.Path.{ap}
use Rattle.std.proofs.Math.Bool.{false}
use Prim.Native.Nat.{ℕ, ◌+◌, ◌-◌, ◌*◌, ◌/◌, ◌^◌, ◌≤◌, ◌<◌}
use Rattle.std.proofs.Math.Nat.{le_of_mul-le-mul_right, eq_of_mul-eq-mul_right, le_trans}
use native.Mathlib.Omega.{arith}
use Rattle.std.proofs.Math.Dec.{lit≤}
use Rattle.std.proofs.Math.Pow.{pow-add}
use Rattle.std.specs.Float.{nan, inf, fin}
use Rattle.std.specs.Float.Ieee.{binary64, up, down, size, round, fits, lt}
use Rattle.std.specs.Float.Ieee.Bits.{is_false}
use Rattle.std.specs.Float.Ieee.Digits.{size_reaches}
use Rattle.std.specs.Float.Ieee.Fits.{down_pos, mul-fits}
use Rattle.std.specs.Float.Ieee.Nearest.{closest, closest_same}
use Rattle.std.specs.Float.Ieee.Exact.{HasValue}
use Rattle.std.specs.Float.Ieee.Positive.{positive_of_value, mul_at}
use Rattle.std.specs.Float.Ieee.Scale as scale
use Rattle.numbers.specs.Num.{◌⊗◌, zero64}
use Rattle.numbers.specs.Root.{root}
use Rattle.numbers.specs.Order.{negative, finite}
use Rattle.numbers.specs.Value.{units_of, AtLeast}
use Rattle.numbers.specs.Units.{grid, units_exact, units_of_lem, same_units}
use Rattle.numbers.proofs.Roots.{root_has}
use Rattle.numbers.specs.SquareRoots.{Placed, at, long, nothing_nearer, placed, still_finite}

module _ (m : ℕ) (e : ℤ) (f : T (fits binary64 (fin false m e))) (some : AtLeast 500 (fin false m e)) (g : T (finite (fin false m e ⊗ fin false m e))) (h : T (lt zero64 (fin false m e ⊗ fin false m e))) where
  abbrev y : Float
  y = fin false m e

  abbrev u : ℕ
  u = units_of y

  abbrev l : ℕ
  l = 2 ^ 1074

  big : 2 ^ 574 ≤ u
  unfolding AtLeast
  big = le_of_mul-le-mul_right {k = 2 ^ 500} (le_trans (le_of_eq (sym (pow-add 2 574 500))) (long (m * up e) (down e) u l (2 ^ 500) (down_pos e) (units_exact false m e f) some)) (pow_pos 500)

  v : Placed u
  v = let a : 2 ^ 53 ≤ 2 ^ 574 = lit≤ tt in placed u (grid y f) (le_trans a big)

  C : 0 < l * l
  C = mul-pos (pow_pos 1074) (pow_pos 1074)

  value : HasValue y false u l
  value = (refl, units_exact false m e f)

  some_units : 0 < u
  some_units = lt_of_lt_of_le (pow_pos 574) big

  square_is : y ⊗ y ≡ round binary64 false (u * u) (l * l)
  square_is = let p = positive_of_value y u l value some_units in mul_at binary64 y y u l u l p p (pow_pos 1074) (pow_pos 1074) value value

  -- the digits dropped
  t : ℕ
  t = size (u * u * l / (l * l)) - 53

  square_units : units_of (y ⊗ y) ≡ closest (u * u * l) (l * l * 2 ^ t) * 2 ^ t
  unfolding t
  square_units = eq_of_mul-eq-mul_right l (pow_pos 1074) _ _ (units_of_lem (y ⊗ y) false (scale.grid binary64 (u * u) (l * l)) l (pow_pos 1074) (mul-fits binary64 y y) (rw square_is (scale.round_val binary64 (u * u) (l * l) (scale.round_under binary64 (u * u) (l * l) (still_finite _ (rw square_is at g)))))).0

  is : units_of (y ⊗ y) * l ≡ closest (u * u) (2 ^ (t + 1074)) * 2 ^ (t + 1074)
  is =
      join (units_of (y ⊗ y)) (closest (u * u * l) (l * l * 2 ^ t)) (2 ^ t) l (2 ^ (t + 1074)) square_units (pow-add 2 t 1074)
      ∙ ap (λ (k : ℕ). k * 2 ^ (t + 1074)) (closest_same (u * u * l) (l * l * 2 ^ t) (u * u) (2 ^ (t + 1074)) (mul-pos C (pow_pos t)) (pow_pos (t + 1074)) (ap (λ (k : ℕ). u * u * l * k) (pow-add 2 t 1074) ∙ turn (u * u) l (2 ^ t)))
    where
      join : (x k t l w : ℕ) → x ≡ k * t → w ≡ t * l → x * l ≡ k * w
      join x k t l w e f = ap (λ (z : ℕ). z * l) e ∙ mul_assoc k t l ∙ ap (λ (z : ℕ). k * z) (sym f)

      turn : (s l t : ℕ) → s * l * (t * l) ≡ s * (l * l * t)
      turn s l t = omega arith

  last : 2 ^ 52 * 2 ^ (t + 1074) ≤ u * u
  unfolding t
  last =
      let z = size (u * u * l / (l * l)) in
      let a : 2 ^ 52 * l ≤ 2 ^ 574 * 2 ^ 574 = lit≤ tt in
      let b : 2 ^ 52 * l ≤ u * u = le_trans a (mul-le-mul big big) in
      let n : 53 ≤ z = scale.normal_of_fraction binary64 (u * u) (l * l) C (le_trans (le_of_eq (sym (mul_assoc (2 ^ 52) l l))) (mul-le-mul_right l b)) in
      let d : z - 1 ≡ 52 + (z - 53) = omega arith in
      let r : 2 ^ (z - 1) * (l * l) ≤ u * u * l = (le-div_iff_mul-le C).0 (size_reaches (u * u * l / (l * l)) (z - 1) (omega arith)) in
      le_trans (le_of_eq (ap (λ (k : ℕ). 2 ^ 52 * k) (pow-add 2 (z - 53) 1074)))
      (cancel (2 ^ 52) (2 ^ (z - 53)) l (u * u) (pow_pos 1074) (subst (λ (k : ℕ). k * (l * l) ≤ u * u * l) (ap (λ (k : ℕ). 2 ^ k) d ∙ pow-add 2 52 (z - 53)) r))
    where
      cancel : (a t l s : ℕ) → 0 < l → a * t * (l * l) ≤ s * l → a * (t * l) ≤ s
      cancel a t l s L h = le_of_mul-le-mul_right {k = l} (omega (arith, h)) L

  fine_square : root (y ⊗ y) ≡ y
  unfolding finite negative
  fine_square =
      let i = root_has (y ⊗ y) (mul-fits binary64 y y) g h in
      same_units (root (y ⊗ y)) y i.fit f i.fine tt (is_false (negative (root (y ⊗ y))) i.sign)
      (nothing_nearer u (units_of (y ⊗ y) * l) (t + 1074) v is last (units_of (root (y ⊗ y))) (grid (root (y ⊗ y)) i.fit) (i.nearest y f tt))

pub root_square : (y : Float) → T (fits binary64 y) → AtLeast 500 y → T (finite (y ⊗ y)) → T (lt zero64 (y ⊗ y)) → root (y ⊗ y) ≡ y
root_square nan f a g h = unfold AtLeast in absurd a
root_square (inf s) f a g h = unfold AtLeast in absurd a
root_square (fin true m e) f a g h = unfold AtLeast in absurd a
root_square (fin false m e) f a g h = fine_square m e f a g h
