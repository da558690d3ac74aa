-- A float's value in units with its sign taken apart: it is `hi x - lo x`. What an operation gives, in these, with an error in units. Assumes nothing.
use Rattle.std.specs.Prelude.{◌≡◌, Bool, true, false, ℕ, suc, ◌+◌, ◌*◌, ◌^◌, ◌≤◌, ◌<◌, T, Float}
use Rattle.std.proofs.Common.{sym, ap, ◌∙◌, zero-mul, mul-pos, mul-le-mul, mul-le-mul_right, le_of_mul-le-mul_right, le_trans, le_of_eq, arith, pow-add}
use Rattle.std.specs.Float.{nan, inf, fin, binary64}
use Rattle.std.specs.Float.Ieee.{up, down, round, fits}
use Rattle.std.specs.Float.Ieee.Positive.{den, den_pos}
use Rattle.numbers.specs.Num.{◌⊕◌, ◌⊖◌, ◌⊗◌}
use Rattle.numbers.specs.Order.{finite, negative}
use Rattle.numbers.specs.Value.{units_of, Within}
use Rattle.numbers.specs.Units.{units_exact, units_within}
use Rattle.numbers.specs.Fraction.{over, under, plus, less}
use Rattle.numbers.specs.Rounded.{Rounded, add_rounded, sub_rounded, mul_rounded}
use Rattle.numbers.specs.Bounds.{within_finite, within_round}
use Rattle.apart.specs.Errors.{Close, round_sign, round_close}

-- the units of x where it is above zero, and where it is below
unfoldable pub hi : Float → ℕ
hi x = over (negative x) (units_of x)

unfoldable pub lo : Float → ℕ
lo x = under (negative x) (units_of x)

-- ---- the same as fractions
pub hi_exact : (x : Float) → T (fits binary64 x) → T (finite x) → plus x * 2 ^ 1074 ≡ hi x * den x
unfolding finite hi negative
hi_exact nan f g = absurd g
hi_exact (inf s) f g = absurd g
hi_exact (fin true m e) f g = zero-mul (2 ^ 1074) ∙ sym (zero-mul (down e))
hi_exact (fin false m e) f g = units_exact false m e f

pub lo_exact : (x : Float) → T (fits binary64 x) → T (finite x) → less x * 2 ^ 1074 ≡ lo x * den x
unfolding finite lo negative
lo_exact nan f g = absurd g
lo_exact (inf s) f g = absurd g
lo_exact (fin true m e) f g = units_exact true m e f
lo_exact (fin false m e) f g = zero-mul (2 ^ 1074) ∙ sym (zero-mul (down e))

pub parts : (n : ℕ) (x : Float) → Within n x → (plus x ≤ 2 ^ n * den x) × (less x ≤ 2 ^ n * den x)
unfolding Within
parts n nan h = absurd h
parts n (inf s) h = absurd h
parts n (fin true m e) h = (omega arith, h)
parts n (fin false m e) h = (h, omega arith)

-- both together are the units
pub whole : (x : Float) → hi x + lo x ≡ units_of x
unfolding hi lo
whole x = go (negative x) (units_of x)
  where
    go : (s : Bool) (u : ℕ) → over s u + under s u ≡ u
    go true u = omega arith
    go false u = omega arith

pub units_most : (n : ℕ) (x : Float) → T (fits binary64 x) → Within n x → units_of x ≤ 2 ^ n * 2 ^ 1074
units_most n nan f h = unfold Within in absurd h
units_most n (inf s) f h = unfold Within in absurd h
units_most n (fin s m e) f h = units_within n s m e f h

-- ---- what is rounded once
-- v is (p - n) / c, but for e
pub record Near (v : Float) (p n c e : ℕ) : Type 0 where
  pub most : hi v * c + n ≤ p + lo v * c + e
  pub least : p + lo v * c ≤ hi v * c + n + e

-- in size: a / c of l units each
sized : (l u a c M E : ℕ) → Close l u a c → a ≤ M * c → M * l + 2 ^ 52 ≤ 2 ^ 52 * E → (u * c ≤ a * l + c * E) × (a * l ≤ u * c + c * E)
sized l u a c M E k h g =
    let x : a * l + 2 ^ 52 * c ≤ 2 ^ 52 * (c * E) = omega (arith, mul-le-mul_right l h, mul-le-mul_right c g) in
    (omega (arith, k.most), omega (arith, k.least))

pub rounded_size : (s : Bool) (a p n M : ℕ) → p ≤ M → n ≤ M → over s a + n ≡ p + under s a → a ≤ M
rounded_size true a p n M h k e = omega arith
rounded_size false a p n M h k e = omega arith

pub within_rounded : {v : Float} {p n c : ℕ} (m : ℕ) → m ≤ 1000 → 0 < c → Rounded v p n c → p ≤ 2 ^ m * c → n ≤ 2 ^ m * c → Within m v
within_rounded {v} {p} {n} {c} m l C r h k = rw r.is (within_round m r.sign r.size c l C (rounded_size r.sign r.size p n (2 ^ m * c) h k r.value))

pub rounded_close : {v : Float} {p n c : ℕ} (m : ℕ) → m ≤ 1000 → 0 < c → (r : Rounded v p n c) → p ≤ 2 ^ m * c → n ≤ 2 ^ m * c → Close (2 ^ 1074) (units_of v) r.size c
rounded_close {v} {p} {n} {c} m l C r h k = rw r.is (round_close r.size c m C l (rounded_size r.sign r.size p n (2 ^ m * c) h k r.value) r.sign)

signed : (t s : Bool) (l u a p n c E : ℕ) → t ≡ s → over s a + n ≡ p + under s a → (u * c ≤ a * l + c * E) × (a * l ≤ u * c + c * E) → (over t u * c + n * l ≤ p * l + under t u * c + c * E) × (p * l + under t u * c ≤ over t u * c + n * l + c * E)
signed t true l u a p n c E x y h = rw x (omega (arith, ap (λ (z : ℕ). z * l) y, h.0, h.1), omega (arith, ap (λ (z : ℕ). z * l) y, h.0, h.1))
signed t false l u a p n c E x y h = rw x (omega (arith, ap (λ (z : ℕ). z * l) y, h.0, h.1), omega (arith, ap (λ (z : ℕ). z * l) y, h.0, h.1))

pub rounded_near : {v : Float} {p n c : ℕ} (m E : ℕ) → m ≤ 1000 → 0 < c → Rounded v p n c → p ≤ 2 ^ m * c → n ≤ 2 ^ m * c → 2 ^ m * 2 ^ 1074 + 2 ^ 52 ≤ 2 ^ 52 * E → Near v (p * 2 ^ 1074) (n * 2 ^ 1074) c (c * E)
unfolding hi lo
rounded_near {v} {p} {n} {c} m E l C r h k g =
    let a = r.size in
    let s = r.sign in
    let b = rounded_size s a p n (2 ^ m * c) h k r.value in
    let z = sized (2 ^ 1074) (units_of (round binary64 s a c)) a c (2 ^ m) E (round_close a c m C l b s) b g in
    let w = signed (negative (round binary64 s a c)) s (2 ^ 1074) (units_of (round binary64 s a c)) a p n c E (round_sign a c m C l b s) r.value z in
    rw r.is (record { most = w.0; least = w.1 })

-- ---- sums and differences
-- v is p - n units, but for e
pub record About (v : Float) (p n e : ℕ) : Type 0 where
  pub most : hi v + n ≤ p + lo v + e
  pub least : p + lo v ≤ hi v + n + e

about : {v : Float} {p n c e : ℕ} → 0 < c → Near v (p * c) (n * c) c (c * e) → About v p n e
about {v} {p} {n} {c} {e} C k = record {
  most = le_of_mul-le-mul_right {k = c} (omega (arith, k.most)) C;
  least = le_of_mul-le-mul_right {k = c} (omega (arith, k.least)) C;
}

pub twice : (n p d q c : ℕ) → p ≤ 2 ^ n * d → q ≤ 2 ^ n * c → p * c + q * d ≤ 2 ^ suc n * (d * c)
twice n p d q c h k = let t : 2 ^ suc n ≡ 2 * 2 ^ n = omega arith in rw t (omega (arith, mul-le-mul_right c h, mul-le-mul_right d k))

-- x / d + y / c in units
pub joined : (l x X d y Y c : ℕ) → x * l ≡ X * d → y * l ≡ Y * c → (x * c + y * d) * l ≡ (X + Y) * (d * c)
joined l x X d y Y c e f = omega (arith, ap (λ (z : ℕ). z * c) e, ap (λ (z : ℕ). z * d) f)

module _ (m E : ℕ) (x y : Float) (f : T (fits binary64 x)) (g : T (fits binary64 y)) (l : suc m ≤ 1000) (h : Within m x) (k : Within m y) (small : 2 ^ suc m * 2 ^ 1074 + 2 ^ 52 ≤ 2 ^ 52 * E) where
  pub add_about : About (x ⊕ y) (hi x + hi y) (lo x + lo y) E
  add_about =
      let fx = within_finite m x h in
      let fy = within_finite m y k in
      let a = parts m x h in
      let b = parts m y k in
      let C = mul-pos (den_pos x) (den_pos y) in
      let r = rounded_near (suc m) E l C (add_rounded x y fx fy) (twice m (plus x) (den x) (plus y) (den y) a.0 b.0) (twice m (less x) (den x) (less y) (den y) a.1 b.1) small in
      about C (rw (joined (2 ^ 1074) (plus x) (hi x) (den x) (plus y) (hi y) (den y) (hi_exact x f fx) (hi_exact y g fy), joined (2 ^ 1074) (less x) (lo x) (den x) (less y) (lo y) (den y) (lo_exact x f fx) (lo_exact y g fy)) at r)

  pub sub_about : About (x ⊖ y) (hi x + lo y) (lo x + hi y) E
  sub_about =
      let fx = within_finite m x h in
      let fy = within_finite m y k in
      let a = parts m x h in
      let b = parts m y k in
      let C = mul-pos (den_pos x) (den_pos y) in
      let r = rounded_near (suc m) E l C (sub_rounded x y fx fy) (twice m (plus x) (den x) (less y) (den y) a.0 b.1) (twice m (less x) (den x) (plus y) (den y) a.1 b.0) small in
      about C (rw (joined (2 ^ 1074) (plus x) (hi x) (den x) (less y) (lo y) (den y) (hi_exact x f fx) (lo_exact y g fy), joined (2 ^ 1074) (less x) (lo x) (den x) (plus y) (hi y) (den y) (lo_exact x f fx) (hi_exact y g fy)) at r)

-- ---- products
timed : (l x X d y Y c : ℕ) → x * l ≡ X * d → y * l ≡ Y * c → x * y * l * l ≡ X * Y * (d * c)
timed l x X d y Y c e f = omega (arith, ap (λ (z : ℕ). z * (y * l)) e, ap (λ (z : ℕ). X * d * z) f)

scaled : (l D v w p P n N E : ℕ) → 0 < D → p * l * l ≡ P * D → n * l * l ≡ N * D → v * D + n * l ≤ p * l + w * D + D * E → v * l + N ≤ P + w * l + l * E
scaled l D v w p P n N E d e f h = le_of_mul-le-mul_right {k = D} (omega (arith, mul-le-mul_right l h)) d

scaled_back : (l D v w p P n N E : ℕ) → 0 < D → p * l * l ≡ P * D → n * l * l ≡ N * D → p * l + w * D ≤ v * D + n * l + D * E → P + w * l ≤ v * l + N + l * E
scaled_back l D v w p P n N E d e f h = le_of_mul-le-mul_right {k = D} (omega (arith, mul-le-mul_right l h)) d

-- by a factor that is not below zero
module _ (a b E : ℕ) (x y : Float) (f : T (fits binary64 x)) (g : T (fits binary64 y)) (l : a + b ≤ 1000) (h : Within a x) (k : Within b y) (up : less y ≡ 0) (small : 2 ^ (a + b) * 2 ^ 1074 + 2 ^ 52 ≤ 2 ^ 52 * E) where
  mul_up : Rounded (x ⊗ y) (plus x * plus y) (less x * plus y) (den x * den y)
  mul_up =
      let r = mul_rounded x y (within_finite a x h) (within_finite b y k) in
      record { sign = r.sign; size = r.size; is = r.is; value = go (over r.sign r.size) (under r.sign r.size) (plus x) (less x) (plus y) (less y) up r.value }
    where
      go : (o u p n q m : ℕ) → m ≡ 0 → o + (p * m + n * q) ≡ p * q + n * m + u → o + n * q ≡ p * q + u
      go o u p n q m z e = omega (arith, ap (λ (i : ℕ). p * i) z, ap (λ (i : ℕ). n * i) z)

  times_le : (p d q c : ℕ) → p ≤ 2 ^ a * d → q ≤ 2 ^ b * c → p * q ≤ 2 ^ (a + b) * (d * c)
  times_le p d q c i j = rw (pow-add 2 a b) (le_trans (mul-le-mul i j) (le_of_eq (go (2 ^ a) (2 ^ b))))
    where
      go : (A B : ℕ) → A * d * (B * c) ≡ A * B * (d * c)
      go A B = omega arith

  pub mul_about : Near (x ⊗ y) (hi x * hi y) (lo x * hi y) (2 ^ 1074) (2 ^ 1074 * E)
  mul_about =
      let fx = within_finite a x h in
      let fy = within_finite b y k in
      let C = mul-pos (den_pos x) (den_pos y) in
      let r = rounded_near (a + b) E l C mul_up (times_le (plus x) (den x) (plus y) (den y) (parts a x h).0 (parts b y k).0) (times_le (less x) (den x) (plus y) (den y) (parts a x h).1 (parts b y k).0) small in
      let P = timed (2 ^ 1074) (plus x) (hi x) (den x) (plus y) (hi y) (den y) (hi_exact x f fx) (hi_exact y g fy) in
      let N = timed (2 ^ 1074) (less x) (lo x) (den x) (plus y) (hi y) (den y) (lo_exact x f fx) (hi_exact y g fy) in
      record {
        most = scaled (2 ^ 1074) (den x * den y) (hi (x ⊗ y)) (lo (x ⊗ y)) (plus x * plus y) (hi x * hi y) (less x * plus y) (lo x * hi y) E C P N r.most;
        least = scaled_back (2 ^ 1074) (den x * den y) (hi (x ⊗ y)) (lo (x ⊗ y)) (plus x * plus y) (hi x * hi y) (less x * plus y) (lo x * hi y) E C P N r.least;
      }
