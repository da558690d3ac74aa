-- The root of what is above zero, and of what fits: what rests on its being the nearest. Assumes nothing.
use Rattle.std.specs.Prelude.{◌≡◌, Bool, true, not, ℕ, zero, suc, ◌+◌, ◌*◌, ◌^◌, ◌≤◌, ◌<◌, ℤ, pos, T, Float}
use Rattle.std.proofs.Common.{sym, ap, subst, ◌∙◌, arith, pow_pos, pow-add, pow_mono, lit<}
use Rattle.std.proofs.Math.Bool.{false}
use native.Mathlib.Nat.{mul-pos, mul-le-mul_right, mul-lt-mul_of_pos_right, le_of_eq, lt_of_le_of_lt, lt_of_lt_of_le}
use Rattle.std.specs.Float.{nan, inf, fin, binary64}
use Rattle.std.specs.Float.Ieee.{odd, fits, lt, le}
use Rattle.std.specs.Float.Ieee.Fits.{odd-fits, nan-fits, inf-fits}
use Rattle.std.specs.Float.Ieee.Exact.{HasValue, odd_sign}
use Rattle.std.specs.Float.Ieee.Order.{le_of_values}
use Rattle.std.specs.Float.Ieee.Positive.{positive_of_value}
use Rattle.numbers.specs.Num.{zero64}
use Rattle.numbers.specs.Root.{root}
use Rattle.numbers.specs.Order.{negative, finite}
use Rattle.numbers.specs.Value.{units_of, IsRoot}
use Rattle.numbers.specs.Units.{grid, fine, units_lt, own_units}
use Rattle.numbers.specs.RootNearest.{Rooted, at_least, at_most, units_nearest}
use Rattle.numbers.proofs.RootNearest.{rooted}
use Rattle.numbers.specs.FloatOrder as order
use Rattle.numbers.specs.Roots.{nearer_mono, not_above, not_down, nothing_below, odd_fine, odd_negative, positive_lt, root_opened, small_places, some_units, units_mono, zero_le}

module _ (m : ℕ) (e : ℤ) (f : T (fits binary64 (fin false (suc m) e))) where
  z : Rooted (units_of (fin false (suc m) e) * 2 ^ 1074)
  z = rooted (units_of (fin false (suc m) e)) (some_units m e f) (grid (fin false (suc m) e) f)

  root_is : root (fin false (suc m) e) ≡ odd 54 false z.q z.k 1074
  root_is = root_opened m e ∙ z.is

  places : z.k ≤ 2000
  places =
      small_places z.m z.k (units_of (fin false (suc m) e) * 2 ^ 1074) z.low z.split
      (lt_of_lt_of_le (mul-lt-mul_of_pos_right (units_lt (fin false (suc m) e) f) (pow_pos 1074)) (le_of_eq (ap (λ (y : ℕ). y * 2 ^ 1074) (sym (pow-add 2 1024 1074)) ∙ sym (pow-add 2 2098 1074))))

  above_fits : T (fits binary64 (root (fin false (suc m) e)))
  above_fits =
      let top : z.q ≤ 2 ^ 53 = at_most z.m z.q z.near z.high in
      rw root_is (odd-fits binary64 54 false z.q z.k (lt_of_le_of_lt top (lit< tt)) top
      (lt_of_le_of_lt (mul-le-mul_right (2 ^ z.k) top) (lt_of_le_of_lt (le_of_eq (sym (pow-add 2 53 z.k))) (lt_of_le_of_lt (pow_mono (room z.k places)) (lit< tt)))))
    where
      room : (k : ℕ) → k ≤ 2000 → 53 + k ≤ 2053
      room k h = omega arith

  above_fine : T (finite (root (fin false (suc m) e)))
  above_fine = rw root_is (odd_fine 54 false z.q z.k 1074)

  pub above_negative : negative (root (fin false (suc m) e)) ≡ false
  above_negative = ap negative root_is ∙ odd_negative 54 false z.q z.k 1074

  above_zero : T (lt zero64 (root (fin false (suc m) e)))
  above_zero =
      let low : 2 ^ 52 ≤ z.q = at_least z.m z.q z.near z.low in
      let v = odd 54 false z.q z.k 1074 in
      rw root_is (positive_lt v (positive_of_value v (z.q * 2 ^ z.k) (2 ^ 1074) (odd_sign 54 false z.q z.k 1074) (mul-pos (lt_of_lt_of_le (lit< tt) low) (pow_pos z.k))))

  pub above_is : IsRoot (fin false (suc m) e) (root (fin false (suc m) e))
  above_is = record {
    fit = above_fits;
    fine = above_fine;
    sign = subst (λ (b : Bool). T (not b)) (sym above_negative) tt;
    nearest = λ y g h. rw root_opened (units_nearest (units_of (fin false (suc m) e) * 2 ^ 1074) (units_of y) z (grid y g));
  }

pub root_has : (x : Float) → T (fits binary64 x) → T (finite x) → T (lt zero64 x) → IsRoot x (root x)
unfolding finite
root_has nan f g h = absurd g
root_has (inf s) f g h = absurd g
root_has (fin s zero e) f g h = absurd (not_above s e h)
root_has (fin true (suc m) e) f g h = unfold lt in absurd h
root_has (fin false (suc m) e) f g h = above_is m e f

pub root_fits : (x : Float) → T (fits binary64 x) → T (fits binary64 (root x))
unfolding root
root_fits nan f = nan-fits binary64
root_fits (inf true) f = nan-fits binary64
root_fits (inf false) f = inf-fits binary64 false
root_fits (fin s zero e) f = f
root_fits (fin true (suc m) e) f = nan-fits binary64
root_fits (fin false (suc m) e) f = above_fits m e f

pub root_finite : (x : Float) → T (fits binary64 x) → T (finite x) → T (le zero64 x) → T (finite (root x))
unfolding finite
root_finite nan f g h = absurd g
root_finite (inf s) f g h = absurd g
root_finite (fin s zero e) f g h = unfold root in tt
root_finite (fin true (suc m) e) f g h = absurd (nothing_below m e h)
root_finite (fin false (suc m) e) f g h = above_fine m e f

-- never negative: the root of -0 is -0
pub root_up : (x : Float) → T (fits binary64 x) → T (le zero64 x) → T (le zero64 (root x))
root_up nan f h = unfold le in absurd h
root_up (inf true) f h = unfold le in absurd h
root_up (inf false) f h = unfold root le in tt
root_up (fin s zero e) f h = unfold root in h
root_up (fin true (suc m) e) f h = absurd (nothing_below m e h)
root_up (fin false (suc m) e) f h = zero_le false (pos 0) (root (fin false (suc m) e)) (above_fine m e f) (above_negative m e f)

-- above zero where x is
pub root_above : (x : Float) → T (fits binary64 x) → T (lt zero64 x) → T (lt zero64 (root x))
root_above nan f h = unfold lt in absurd h
root_above (inf true) f h = unfold lt in absurd h
root_above (inf false) f h = unfold root lt in tt
root_above (fin s zero e) f h = absurd (not_above s e h)
root_above (fin true (suc m) e) f h = unfold lt in absurd h
root_above (fin false (suc m) e) f h = above_zero m e f

above_mono : (m n : ℕ) (e d : ℤ) → T (fits binary64 (fin false (suc m) e)) → T (fits binary64 (fin false (suc n) d)) → T (le (fin false (suc m) e) (fin false (suc n) d)) → T (le (root (fin false (suc m) e)) (root (fin false (suc n) d)))
above_mono m n e d f g h =
    let x = fin false (suc m) e in
    let y = fin false (suc n) d in
    let p = above_is m e f in
    let q = above_is n d g in
    le_of_values (root x) (root y) (units_of (root x)) (2 ^ 1074) (units_of (root y)) (2 ^ 1074) (pow_pos 1074) (pow_pos 1074)
    (subst (λ (s : Bool). HasValue (root x) s (units_of (root x)) (2 ^ 1074)) (above_negative m e f) (own_units (root x) p.fit p.fine))
    (subst (λ (s : Bool). HasValue (root y) s (units_of (root y)) (2 ^ 1074)) (above_negative n d g) (own_units (root y) q.fit q.fine))
    (mul-le-mul_right (2 ^ 1074)
    (nearer_mono (units_of x * 2 ^ 1074) (units_of y * 2 ^ 1074) (units_of (root x)) (units_of (root y)) (mul-le-mul_right (2 ^ 1074) (units_mono (suc m) (suc n) e d h)) (p.nearest (root y) q.fit q.fine) (q.nearest (root x) p.fit p.fine)))

pub root_mono : (x y : Float) → T (fits binary64 x) → T (fits binary64 y) → T (le zero64 x) → T (le x y) → T (le (root x) (root y))
root_mono nan y f g p h = unfold le in absurd p
root_mono (inf true) y f g p h = unfold le in absurd p
root_mono (inf false) nan f g p h = unfold le in absurd h
root_mono (inf false) (inf true) f g p h = unfold le in absurd h
root_mono (inf false) (inf false) f g p h = unfold root in h
root_mono (inf false) (fin t n d) f g p h = unfold le in absurd h
root_mono (fin s zero e) nan f g p h = unfold le in absurd h
root_mono (fin s zero e) (inf true) f g p h = unfold le in absurd h
root_mono (fin s zero e) (inf false) f g p h = unfold root in h
root_mono (fin s zero e) (fin t zero d) f g p h = unfold root in h
root_mono (fin s zero e) (fin true (suc n) d) f g p h = absurd (nothing_below n d (order.le_trans zero64 (fin s zero e) (fin true (suc n) d) p h))
root_mono (fin s zero e) (fin false (suc n) d) f g p h = unfold root in zero_le s e (root (fin false (suc n) d)) (above_fine n d g) (above_negative n d g)
root_mono (fin true (suc m) e) y f g p h = absurd (nothing_below m e p)
root_mono (fin false (suc m) e) nan f g p h = unfold le in absurd h
root_mono (fin false (suc m) e) (inf true) f g p h = unfold le in absurd h
root_mono (fin false (suc m) e) (inf false) f g p h = unfold root in order.le_inf (root (fin false (suc m) e)) (order.finite_number (root (fin false (suc m) e)) (above_fine m e f))
root_mono (fin false (suc m) e) (fin t zero d) f g p h = absurd (not_down m e t d h)
root_mono (fin false (suc m) e) (fin true (suc n) d) f g p h = absurd (nothing_below n d (order.le_trans zero64 (fin false (suc m) e) (fin true (suc n) d) p h))
root_mono (fin false (suc m) e) (fin false (suc n) d) f g p h = above_mono m n e d f g h
