-- The exact distance of two points, from the distance as it is worked out and the number of parts that come of it. Assumes nothing.
use Rattle.std.specs.Prelude.{◌≡◌, Bool, true, not, ℕ, zero, suc, ◌+◌, ◌-◌, ◌*◌, ◌/◌, ◌^◌, ◌≤◌, ◌<◌, T, ℤ, pos, nat_abs, neg_ℤ, ◌+ℤ◌, Float}
use Rattle.std.proofs.Math.Path.{refl}
use Rattle.std.proofs.Common.{sym, ap, ◌∙◌, subst, inl, inr, zero-le, zero-mul, mul-one, one-mul, mul-pos, mul-le-mul, mul-le-mul_left, mul-le-mul_right, le_of_mul-le-mul_right, le_of_eq, le_of_lt, lt_of_lt_of_le, div-add-mod', mod-lt, le-div_iff_mul-le, arith, lit≤, pow_pos}
use Rattle.std.proofs.Math.Bool.{false}
use Rattle.std.proofs.Math.Nat.{eq_of_mul-eq-mul_right, le_trans}
use Rattle.std.specs.Float.{nan, inf, fin}
use Rattle.std.specs.Float.Ieee.{binary64, up, down, unlike, round, mul, fits, le, lt}
use Rattle.std.specs.Float.Ieee.Fits.{down_pos, round-fits}
use Rattle.std.specs.Float.Ieee.Positive.{den, den_pos}
use Rattle.numbers.specs.Num.{◌⊕◌, ◌⊖◌, ◌⊗◌, ◌⊘◌, zero64}
use Rattle.numbers.specs.Root.{root}
use Rattle.numbers.specs.Whole.{ceil}
use Rattle.numbers.specs.Order.{finite, negative}
use Rattle.numbers.specs.Value.{units_of, value_of, Within, AtLeast, Nearer, IsWhole}
use Rattle.numbers.specs.Units.{units_exact}
use Rattle.numbers.specs.Fraction.{over, under, plus, less}
use Rattle.numbers.specs.Rounded.{add_rounded, sub_rounded}
use Rattle.numbers.specs.Monotone.{at_least_zero, div_rounded}
use Rattle.numbers.specs.Bounds.{within_finite, within_round}
use Rattle.numbers.specs.Roots.{nothing_below}
use Rattle.numbers.proofs.Roots.{above_is}
use Rattle.numbers.specs.Laws.{ceil_is, atleast_above, within_sub, within_mul, within_add, within_more, within_div, square_up, sum_up, div_up, sub-fits, add-fits, mul-fits, div-fits}
use Rattle.numbers.proofs.Laws.{within_root, root_fits, root_up}
use Rattle.geom.specs.declared.point.P.{P}
use Rattle.geom.specs.Point.{len, dist}
use Rattle.apart.specs.Apart.{gap}
use Rattle.apart.specs.Errors.{Close, round_close}
use Rattle.apart.specs.Values.{hi, lo, hi_exact, lo_exact, parts, twice, joined, rounded_close, units_most}
use Rattle.apart.specs.Gaps.{Differ, gap_is}
use Rattle.apart.specs.Laws.{distance, above, below}

-- a rounded value of at least z / c, in the law's numbers
weaker : (v z : ℕ) → 2 ^ 52 * z ≤ 2 ^ 52 * v + z + 2 ^ 52 → (2 ^ 30 - 1) * z ≤ 2 ^ 30 * (v + 1)
weaker v z h = omega arith

weaker_by : (v z c : ℕ) → 2 ^ 52 * z ≤ 2 ^ 52 * (v * c) + z + 2 ^ 52 * c → (2 ^ 30 - 1) * z ≤ 2 ^ 30 * ((v + 1) * c)
weaker_by v z c h = omega arith

-- ---- a difference
differ_size : (s : Bool) (l a p n P N X c : ℕ) → over s a + n ≡ p + under s a → p * l ≡ P * c → n * l ≡ N * c → Differ P N X → a * l ≡ X * c
differ_size true l a p n P N X c e f g (inl d) = omega (arith, ap (λ (z : ℕ). z * l) e, ap (λ (z : ℕ). z * c) d)
differ_size true l a p n P N X c e f g (inr d) = omega (arith, ap (λ (z : ℕ). z * l) e, ap (λ (z : ℕ). z * c) d)
differ_size false l a p n P N X c e f g (inl d) = omega (arith, ap (λ (z : ℕ). z * l) e, ap (λ (z : ℕ). z * c) d)
differ_size false l a p n P N X c e f g (inr d) = omega (arith, ap (λ (z : ℕ). z * l) e, ap (λ (z : ℕ). z * c) d)

cut : (v X c : ℕ) → 0 < c → 2 ^ 52 * (X * c) ≤ 2 ^ 52 * (v * c) + X * c + 2 ^ 52 * c → 2 ^ 52 * X ≤ 2 ^ 52 * v + X + 2 ^ 52
cut v X c C h = le_of_mul-le-mul_right {k = c} (omega arith) C

pub difference : (x y : Float) → T (fits binary64 x) → T (fits binary64 y) → Within 30 x → Within 30 y → (2 ^ 30 - 1) * gap x y ≤ 2 ^ 30 * (units_of (x ⊖ y) + 1)
difference x y f g h k =
    let fx = within_finite 30 x h in
    let fy = within_finite 30 y k in
    let a = parts 30 x h in
    let b = parts 30 y k in
    let c = den x * den y in
    let C = mul-pos (den_pos x) (den_pos y) in
    let r = sub_rounded x y fx fy in
    let w = rounded_close 31 (lit≤ tt) C r (twice 30 (plus x) (den x) (less y) (den y) a.0 b.1) (twice 30 (less x) (den x) (plus y) (den y) a.1 b.0) in
    let e = differ_size r.sign (2 ^ 1074) r.size (plus x * den y + less y * den x) (less x * den y + plus y * den x) (hi x + lo y) (lo x + hi y) (gap x y) c r.value
    (joined (2 ^ 1074) (plus x) (hi x) (den x) (less y) (lo y) (den y) (hi_exact x f fx) (lo_exact y g fy)) (joined (2 ^ 1074) (less x) (lo x) (den x) (plus y) (hi y) (den y) (lo_exact x f fx) (hi_exact y g fy)) (gap_is x y) in
    weaker (units_of (x ⊖ y)) (gap x y) (cut (units_of (x ⊖ y)) (gap x y) c C (subst (λ (z : ℕ). 2 ^ 52 * z ≤ 2 ^ 52 * (units_of (x ⊖ y) * c) + z + 2 ^ 52 * c) e w.least))

-- ---- a square
cut_square : (l v u A D : ℕ) → 0 < D → A * l ≡ u * D → 2 ^ 52 * (A * A * l) ≤ 2 ^ 52 * (v * (D * D)) + A * A * l + 2 ^ 52 * (D * D) → 2 ^ 52 * (u * u) ≤ 2 ^ 52 * (v * l) + u * u + 2 ^ 52 * l
cut_square l v u A D d e h =
    let q : A * A * l * l ≡ u * u * (D * D) = omega (arith, ap (λ (z : ℕ). z * (A * l)) e, ap (λ (z : ℕ). u * D * z) e) in
    le_of_mul-le-mul_right {k = D * D} (omega (arith, mul-le-mul_right l h)) (mul-pos d d)

pub square : (x : Float) → T (fits binary64 x) → Within 31 x → (2 ^ 30 - 1) * (units_of x * units_of x) ≤ 2 ^ 30 * ((units_of (x ⊗ x) + 1) * 2 ^ 1074)
unfolding mul Within
square nan f h = absurd h
square (inf s) f h = absurd h
square (fin s m e) f h =
    let a = m * up e in
    let d = down e in
    let v = units_of (round binary64 (unlike s s) (a * a) (d * d)) in
    let w = round_close (a * a) (d * d) 62 (mul-pos (down_pos e) (down_pos e)) (lit≤ tt) (le_trans (mul-le-mul h h) (le_of_eq (go (2 ^ 31) d))) (unlike s s) in
    weaker_by v (units_of (fin s m e) * units_of (fin s m e)) (2 ^ 1074) (cut_square (2 ^ 1074) v (units_of (fin s m e)) a d (down_pos e) (units_exact s m e f) w.least)
  where
    go : (p d : ℕ) → p * d * (p * d) ≡ p * p * (d * d)
    go p d = omega arith

-- ---- what is not below zero
no_units : (l a d u : ℕ) → a * l ≡ u * d → a ≡ 0 → 0 * l ≡ u * d
no_units l a d u e z = sym (ap (λ (k : ℕ). k * l) z) ∙ e

pub up_exact : (x : Float) → T (fits binary64 x) → T (finite x) → less x ≡ 0 → plus x * 2 ^ 1074 ≡ units_of x * den x
unfolding finite
up_exact nan f g z = absurd g
up_exact (inf s) f g z = absurd g
up_exact (fin true m e) f g z = no_units (2 ^ 1074) (m * up e) (down e) (units_of (fin true m e)) (units_exact true m e f) z
up_exact (fin false m e) f g z = units_exact false m e f

up_size : (s : Bool) (a p n : ℕ) → over s a + n ≡ p + under s a → n ≡ 0 → a ≡ p
up_size true a p n e z = omega arith
up_size false a p n e z = omega arith

-- ---- a sum of two that are not below zero
no_less : (a d b c : ℕ) → a ≡ 0 → b ≡ 0 → a * c + b * d ≡ 0
no_less a d b c x y = omega (arith, ap (λ (z : ℕ). z * c) x, ap (λ (z : ℕ). z * d) y)

pub sum : (x y : Float) → T (fits binary64 x) → T (fits binary64 y) → Within 62 x → Within 62 y → T (le zero64 x) → T (le zero64 y) → (2 ^ 30 - 1) * (units_of x + units_of y) ≤ 2 ^ 30 * (units_of (x ⊕ y) + 1)
sum x y f g h k p q =
    let fx = within_finite 62 x h in
    let fy = within_finite 62 y k in
    let zx = at_least_zero x fx p in
    let zy = at_least_zero y fy q in
    let a = parts 62 x h in
    let b = parts 62 y k in
    let c = den x * den y in
    let C = mul-pos (den_pos x) (den_pos y) in
    let r = add_rounded x y fx fy in
    let w = rounded_close 63 (lit≤ tt) C r (twice 62 (plus x) (den x) (plus y) (den y) a.0 b.0) (twice 62 (less x) (den x) (less y) (den y) a.1 b.1) in
    let i = up_size r.sign r.size (plus x * den y + plus y * den x) (less x * den y + less y * den x) r.value (no_less (less x) (den x) (less y) (den y) zx zy) in
    let e = ap (λ (z : ℕ). z * 2 ^ 1074) i ∙ joined (2 ^ 1074) (plus x) (units_of x) (den x) (plus y) (units_of y) (den y) (up_exact x f fx zx) (up_exact y g fy zy) in
    weaker (units_of (x ⊕ y)) (units_of x + units_of y) (cut (units_of (x ⊕ y)) (units_of x + units_of y) c C (subst (λ (z : ℕ). 2 ^ 52 * z ≤ 2 ^ 52 * (units_of (x ⊕ y) * c) + z + 2 ^ 52 * c) e w.least))

-- ---- the root: below what lies above it, squared
nearer_square : (n r y : ℕ) → r < y → Nearer n r y → n ≤ y * y
nearer_square n r y l k = let h = le_of_lt l in omega (arith, k.over l, mul-le-mul h h, mul-le-mul_right y h)

pub rooted : (x y : Float) → T (fits binary64 x) → T (le zero64 x) → T (finite x) → T (fits binary64 y) → T (finite y) → units_of (root x) < units_of y → units_of x * 2 ^ 1074 ≤ units_of y * units_of y
rooted nan y f p h g k l = unfold finite in absurd h
rooted (inf s) y f p h g k l = unfold finite in absurd h
rooted (fin s zero e) y f p h g k l = le_trans (le_of_eq (nought (units_of (fin s zero e)) (down e) (2 ^ 1074) (zero * up e) (down_pos e) (units_exact s zero e f) (zero-mul (up e)))) zero-le
  where
    nought : (u d l a : ℕ) → 0 < d → a * l ≡ u * d → a ≡ 0 → u * l ≡ 0
    nought u d l a D e z = eq_of_mul-eq-mul_right d D (u * l) 0 (omega (arith, ap (λ (i : ℕ). i * l) e, ap (λ (i : ℕ). i * (l * l)) z))
rooted (fin true (suc m) e) y f p h g k l = absurd (nothing_below m e p)
rooted (fin false (suc m) e) y f p h g k l = nearer_square (units_of (fin false (suc m) e) * 2 ^ 1074) (units_of (root (fin false (suc m) e))) (units_of y) l ((above_is m e f).nearest y g k)

-- ---- the length asked for, which need not fit: its units are its value, but for less than one
module _ (l a d : ℕ) (D : 0 < d) where
  part_up_lem : a * l ≤ (a * l / d + 1) * d
  part_up_lem = omega (arith, div-add-mod' (a * l) d, mod-lt (a * l) D)

  part_least : d ≤ a → l ≤ a * l / d
  part_least h = (le-div_iff_mul-le D).1 (omega (arith, mul-le-mul_right l h))

  part_most : (M : ℕ) → a ≤ M * d → a * l / d ≤ M * l
  part_most M h = le_of_mul-le-mul_right {k = d} (omega (arith, mul-le-mul_right l h, div-add-mod' (a * l) d)) D

pub record Length (x : Float) : Type 0 where
  pub fine : T (finite x)
  pub reaches : AtLeast 0 x
  pub above : T (lt zero64 x)
  pub up : less x ≡ 0
  pub one : den x ≤ plus x
  pub exact : plus x * 2 ^ 1074 ≤ (units_of x + 1) * den x
  pub least : 2 ^ 1074 ≤ units_of x
  pub most : units_of x ≤ 2 ^ 10 * 2 ^ 1074

pub length_is : (x : Float) → AtLeast 0 x → Within 10 x → Length x
unfolding AtLeast Within units_of finite
length_is nan h k = absurd h
length_is (inf s) h k = absurd h
length_is (fin true m e) h k = absurd h
length_is (fin false m e) h k =
    let one : down e ≤ m * up e = le_trans h (le_of_eq (mul-one (m * up e))) in
    record {
      fine = tt;
      reaches = h;
      above = atleast_above 0 (fin false m e) h;
      up = refl;
      one = one;
      exact = part_up_lem (2 ^ 1074) (m * up e) (down e) (down_pos e);
      least = part_least (2 ^ 1074) (m * up e) (down e) (down_pos e) one;
      most = part_most (2 ^ 1074) (m * up e) (down e) (down_pos e) (2 ^ 10) k;
    }

-- ---- the quotient by it
cut_quotient : (l v r L p d n c : ℕ) → 0 < d → 0 < c → p * l ≡ r * d → n * l ≤ (L + 1) * c → 2 ^ 52 * (p * c * l) ≤ 2 ^ 52 * (v * (n * d)) + p * c * l + 2 ^ 52 * (n * d) → 2 ^ 52 * (r * l) ≤ 2 ^ 52 * (v * (L + 1)) + r * l + 2 ^ 52 * (L + 1)
cut_quotient l v r L p d n c D C e f h =
    let a : 2 ^ 52 * (r * c) ≤ 2 ^ 52 * (v * n) + r * c + 2 ^ 52 * n = le_of_mul-le-mul_right {k = d} (omega (arith, ap (λ (z : ℕ). z * c) e)) D in
    le_of_mul-le-mul_right {k = c} (omega (arith, mul-le-mul_right l a, mul-le-mul_left (v + 1) f)) C

pub quotient : (x y : Float) → T (fits binary64 x) → Within 40 x → T (le zero64 x) → Length y → (2 ^ 30 - 1) * (units_of x * 2 ^ 1074) ≤ 2 ^ 30 * ((units_of (x ⊘ y) + 1) * (units_of y + 1))
quotient x y f h p k =
    let fx = within_finite 40 x h in
    let z = at_least_zero x fx p in
    let C : 0 < plus y * den x = mul-pos (lt_of_lt_of_le (den_pos y) k.one) (den_pos x) in
    let r = div_rounded x y fx k.fine k.above in
    let a = parts 40 x h in
    let w = rounded_close 40 (lit≤ tt) C r (wide (2 ^ 40) (plus x) (den x) (den y) (plus y) a.0 k.one) (wide (2 ^ 40) (less x) (den x) (den y) (plus y) a.1 k.one) in
    let i = up_size r.sign r.size (plus x * den y) (less x * den y) r.value (ap (λ (n : ℕ). n * den y) z ∙ zero-mul (den y)) in
    weaker_by (units_of (x ⊘ y)) (units_of x * 2 ^ 1074) (units_of y + 1)
    (cut_quotient (2 ^ 1074) (units_of (x ⊘ y)) (units_of x) (units_of y) (plus x) (den x) (plus y) (den y) (den_pos x) (den_pos y) (up_exact x f fx z) k.exact
    (subst (λ (n : ℕ). 2 ^ 52 * (n * 2 ^ 1074) ≤ 2 ^ 52 * (units_of (x ⊘ y) * (plus y * den x)) + n * 2 ^ 1074 + 2 ^ 52 * (plus y * den x)) i w.least))
  where
    wide : (M p d c n : ℕ) → p ≤ M * d → c ≤ n → p * c ≤ M * (n * d)
    wide M p d c n a b = le_trans (mul-le-mul a b) (le_of_eq (turned M d n))
      where
        turned : (M d n : ℕ) → M * d * n ≡ M * (n * d)
        turned M d n = omega arith

-- ---- its ceiling, as a count
up_value : (x : Float) → T (fits binary64 x) → T (finite x) → less x ≡ 0 → value_of x ≡ pos (units_of x)
unfolding finite value_of negative
up_value nan f g z = absurd g
up_value (inf s) f g z = absurd g
up_value (fin false m e) f g z = refl
up_value (fin true m e) f g z = opposite (units_of (fin true m e)) (eq_of_mul-eq-mul_right (down e) (down_pos e) (units_of (fin true m e)) 0 (sym (no_units (2 ^ 1074) (m * up e) (down e) (units_of (fin true m e)) (units_exact true m e f) z) ∙ zero-mul (2 ^ 1074) ∙ sym (zero-mul (down e))))
  where
    opposite : (u : ℕ) → u ≡ 0 → neg_ℤ (pos u) ≡ pos u
    opposite u z = rw z

pub counted : (x : Float) (n : ℕ) → T (fits binary64 x) → T (finite x) → T (le zero64 x) → IsWhole 40 (ceil x) (pos n) → units_of x ≤ n * 2 ^ 1074
counted x n f g p w =
    let c = ceil_is x f g in
    let e : pos (n * 2 ^ 1074) ≡ pos (units_of x + c.rest) = sym w.exact ∙ c.is ∙ ap (λ (k : ℤ). k +ℤ pos c.rest) (up_value x f g (at_least_zero x g p)) in
    go (units_of x) c.rest (n * 2 ^ 1074) (ap nat_abs e)
  where
    go : (u r m : ℕ) → m ≡ u + r → u ≤ m
    go u r m e = omega arith

-- ---- a value a little above W
module _ (l y W : ℕ) (L : 0 < l) (k : Close l y ((2 ^ 27 + 1) * W) (2 ^ 27 * l)) where
  bound_most : 2 ^ 30 * (y * 2 ^ 27) ≤ (2 ^ 30 + 1) * ((2 ^ 27 + 1) * W) + 2 ^ 30 * 2 ^ 27
  bound_most = go y ((2 ^ 27 + 1) * W) (le_of_mul-le-mul_right {k = l} (omega (arith, k.most)) L)
    where
      go : (y a : ℕ) → 2 ^ 52 * (y * 2 ^ 27) ≤ 2 ^ 52 * a + a + 2 ^ 52 * 2 ^ 27 → 2 ^ 30 * (y * 2 ^ 27) ≤ (2 ^ 30 + 1) * a + 2 ^ 30 * 2 ^ 27
      go y a h = omega arith

  bound_least : (2 ^ 30 - 1) * ((2 ^ 27 + 1) * W) ≤ 2 ^ 30 * ((y + 1) * 2 ^ 27)
  bound_least = weaker_by y ((2 ^ 27 + 1) * W) (2 ^ 27) (le_of_mul-le-mul_right {k = l} (omega (arith, k.least)) L)

bound_over : (l y W : ℕ) → 2 ^ 60 ≤ l → l ≤ W → (2 ^ 30 - 1) * ((2 ^ 27 + 1) * W) ≤ 2 ^ 30 * ((y + 1) * 2 ^ 27) → l ≤ y
bound_over l y W a b h = omega arith

some_times : (l N L : ℕ) → 1 ≤ N → l ≤ L → l ≤ N * L
some_times l N L h k = le_trans (le_of_eq (sym (one-mul l))) (mul-le-mul h k)

-- ---- the distance of p and q, from the number of parts of their way
-- two points' coordinates
pub record Point (p : P) : Type 0 where
  pub fit_x : T (fits binary64 p.x)
  pub fit_y : T (fits binary64 p.y)
  pub small_x : Within 30 p.x
  pub small_y : Within 30 p.y

module _ (p q : P) (hp : Point p) (hq : Point q) (size : Float) (k : Length size) (n N : ℕ) (w : IsWhole 40 (ceil (dist p q ⊘ size)) (pos n)) (some : 1 ≤ N) (few : N ≤ 2 ^ 40) (most : n ≤ N) where
  -- a little above N lengths
  abbrev bound : Float
  bound = round binary64 false ((2 ^ 27 + 1) * (N * units_of size)) (2 ^ 27 * 2 ^ 1074)

  bound_small : (2 ^ 27 + 1) * (N * units_of size) ≤ 2 ^ 60 * (2 ^ 27 * 2 ^ 1074)
  bound_small = go (2 ^ 1074) (units_of size) k.most
    where
      go : (l L : ℕ) → L ≤ 2 ^ 10 * l → (2 ^ 27 + 1) * (N * L) ≤ 2 ^ 60 * (2 ^ 27 * l)
      go l L h = let a : N * L ≤ 2 ^ 40 * (2 ^ 10 * l) = mul-le-mul few h in omega arith

  bound_fits : T (fits binary64 bound)
  bound_fits = round-fits binary64 false ((2 ^ 27 + 1) * (N * units_of size)) (2 ^ 27 * 2 ^ 1074)

  bound_fine : T (finite bound)
  bound_fine = within_finite 60 bound (within_round 60 false ((2 ^ 27 + 1) * (N * units_of size)) (2 ^ 27 * 2 ^ 1074) (lit≤ tt) (mul-pos (pow_pos 27) (pow_pos 1074)) bound_small)

  pub apart : gap p.x q.x * gap p.x q.x + gap p.y q.y * gap p.y q.y ≤ N * (units_of size + 2 ^ 1060) * (N * (units_of size + 2 ^ 1060))
  unfolding dist len
  apart =
      let dx = p.x ⊖ q.x in
      let dy = p.y ⊖ q.y in
      let wx = within_sub 30 p.x q.x (lit≤ tt) hp.small_x hq.small_x in
      let wy = within_sub 30 p.y q.y (lit≤ tt) hp.small_y hq.small_y in
      let fx = sub-fits binary64 p.x q.x in
      let fy = sub-fits binary64 p.y q.y in
      let wxx = within_mul 31 31 dx dx (lit≤ tt) wx wx in
      let wyy = within_mul 31 31 dy dy (lit≤ tt) wy wy in
      let s = dx ⊗ dx ⊕ dy ⊗ dy in
      let ux = square_up dx (within_finite 31 dx wx) in
      let uy = square_up dy (within_finite 31 dy wy) in
      let us = sum_up (dx ⊗ dx) (dy ⊗ dy) ux uy in
      let fs = add-fits binary64 (dx ⊗ dx) (dy ⊗ dy) in
      let ws = within_add 62 (dx ⊗ dx) (dy ⊗ dy) (lit≤ tt) wxx wyy in
      let wr = within_root 40 s (lit≤ tt) fs us (within_more 63 80 s (lit≤ tt) ws) in
      let fr = root_fits s fs in
      let ur = root_up s fs us in
      let t = root s ⊘ size in
      let ft = div-fits binary64 (root s) size in
      let wt = within_finite 40 t (within_div 40 0 (root s) size (lit≤ tt) wr k.reaches) in
      let ut = div_up (root s) size (within_finite 40 (root s) wr) k.fine ur k.above in
      let L = units_of size in
      let y = units_of bound in
      let l = 2 ^ 1074 in
      let e = 2 ^ 1060 in
      let c = round_close ((2 ^ 27 + 1) * (N * L)) (2 ^ 27 * l) 60 (mul-pos (pow_pos 27) (pow_pos 1074)) (lit≤ tt) bound_small false in
      let c-most = bound_most l y (N * L) (pow_pos 1074) c in
      let c-least = bound_least l y (N * L) (pow_pos 1074) c in
      let quo = quotient (root s) size fr wr ur k in
      let count = le_trans (counted t n ft wt ut w) (mul-le-mul_right l most) in
      let lower = above l N L (units_of (root s)) (units_of t) y e (lit≤ tt) refl some k.least k.most quo count c-least in
      distance l (gap p.x q.x) (gap p.y q.y) (units_of dx) (units_of dy) (units_of (dx ⊗ dx)) (units_of (dy ⊗ dy)) (units_of s) y (N * (L + e)) (lit≤ tt)
      (difference p.x q.x hp.fit_x hq.fit_x hp.small_x hq.small_x) (difference p.y q.y hp.fit_y hq.fit_y hp.small_y hq.small_y)
      (units_most 31 dx fx wx) (units_most 31 dy fy wy) (square dx fx wx) (square dy fy wy)
      (sum (dx ⊗ dx) (dy ⊗ dy) (mul-fits binary64 dx dx) (mul-fits binary64 dy dy) wxx wyy ux uy)
      (rooted s bound fs us (within_finite 63 s ws) bound_fits bound_fine lower)
      (bound_over l y (N * L) (lit≤ tt) (some_times l N L some k.least) c-least)
      (below l N L (units_of (root s)) (units_of t) y e (lit≤ tt) refl some k.least k.most c-most)
