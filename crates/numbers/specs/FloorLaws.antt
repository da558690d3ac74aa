-- The laws of `floor` and `ceil`: nothing else has what IEEE 754 asks, they go up with x, and lie below and above it; a whole number is its own.
use Rattle.std.specs.Prelude.{◌≡◌, refl, Bool, true, false, not, cond, ℕ, suc, ◌+◌, ◌*◌, ◌/◌, ◌%◌, ◌^◌, ◌≤◌, ◌<◌, ℤ, pos, neg_ℤ, ◌+ℤ◌, nat_abs, T, Float}
use Rattle.std.proofs.Common.{sym, ap, subst, ◌∙◌, arith, pow_pos, lit<}
use native.Mathlib.Nat.{suc-mul, mul_right_comm, mul-le-mul_right, le_of_mul-le-mul_right, lt_of_mul-lt-mul_right, mul-add-div_right, div-eq_of_lt, div-add-mod', add-zero, le_trans, le_of_eq, lt_of_lt_of_le}
use Rattle.std.proofs.Math.IntN.{+ℤ_assoc, +ℤ_comm, +ℤ_invr, +ℤ_idl, +ℤ_idr}
use Rattle.std.specs.Float.Ieee.{nan, up, down, fits, le, is_nan}
use Rattle.std.specs.Float.{inf, fin, binary64}
use Rattle.std.specs.Float.Ieee.Fits.{down_pos}
use Rattle.std.specs.Float.Ieee.Nearest.{div_mono}
use Rattle.numbers.specs.Num.{zero64}
use Rattle.numbers.specs.Order.{negative, finite}
use Rattle.numbers.specs.Whole.{part, whole_of, floor, ceil}
use Rattle.numbers.specs.Value.{units_of, value_of, IsFloor, IsCeil}
use Rattle.numbers.specs.Units.{same_units}
use Rattle.numbers.specs.Fraction.{over, under, le→cross, nothing}
use Rattle.numbers.specs.FloatOrder as order
use Rattle.numbers.specs.Rounded.{Rounded, rounded_le, own_rounded}
use Rattle.numbers.specs.Floors.{part_toward, part_away, value_is, whole_fits, floor_has, ceil_has}

-- ---- two whole numbers with one value in reach are one
multiples : (l v d v' d' : ℕ) → 0 < l → v % l ≡ 0 → v' % l ≡ 0 → d < l → d' < l → v + d ≡ v' + d' → v ≡ v'
multiples l v d v' d' L p q h k e = count v d p h ∙ ap (λ (n : ℕ). n / l * l) e ∙ sym (count v' d' q k)
  where
    count : (v d : ℕ) → v % l ≡ 0 → d < l → v ≡ (v + d) / l * l
    count v d p h =
        let c : v ≡ v / l * l = omega (arith, div-add-mod' v l) in
        c ∙ ap (λ (n : ℕ). n * l) (sym (ap (λ (n : ℕ). (n + d) / l) c ∙ mul-add-div_right L (v / l) d ∙ ap (λ (n : ℕ). v / l + n) (div-eq_of_lt h) ∙ add-zero (v / l)))

cancel : (v : ℕ) (k : ℤ) → pos v +ℤ (neg_ℤ (pos v) +ℤ k) ≡ k
cancel v k = sym (+ℤ_assoc (pos v) (neg_ℤ (pos v)) k) ∙ ap (λ (j : ℤ). j +ℤ k) (+ℤ_invr (pos v)) ∙ +ℤ_idl k

swap : (a b c : ℤ) → a +ℤ (b +ℤ c) ≡ b +ℤ (a +ℤ c)
swap a b c = sym (+ℤ_assoc a b c) ∙ ap (λ (j : ℤ). j +ℤ c) (+ℤ_comm a b) ∙ +ℤ_assoc b a c

same_place : (l v d v' d' : ℕ) (s : Bool) → 0 < l → v % l ≡ 0 → v' % l ≡ 0 → d < l → d' < l → cond s (neg_ℤ (pos v)) (pos v) +ℤ pos d ≡ cond s (neg_ℤ (pos v')) (pos v') +ℤ pos d' → v ≡ v'
same_place l v d v' d' false L p q h k e = multiples l v d v' d' L p q h k (ap nat_abs e)
same_place l v d v' d' true L p q h k e = sym (multiples l v' d v d' L q p h k (ap nat_abs both))
  where
    both : pos v' +ℤ pos d ≡ pos v +ℤ pos d'
    both =
        ap (λ (j : ℤ). pos v' +ℤ j) (sym (cancel v (pos d)) ∙ ap (λ (j : ℤ). pos v +ℤ j) e)
        ∙ swap (pos v') (pos v) (neg_ℤ (pos v') +ℤ pos d')
        ∙ ap (λ (j : ℤ). pos v +ℤ j) (cancel v' (pos d'))

pub floor_unique : (x r r' : Float) → IsFloor x r → IsFloor x r' → r ≡ r'
floor_unique x r r' p q =
    let s = negative x in
    same_units r r' p.fit q.fit p.fine q.fine (p.sign ∙ sym q.sign)
    (same_place (2 ^ 1074) (units_of r) p.rest (units_of r') q.rest s (pow_pos 1074) p.whole q.whole p.under_one q.under_one
    (ap (λ (j : ℤ). j +ℤ pos p.rest) (sym (value_is r s (units_of r) p.sign refl)) ∙ sym p.is ∙ q.is ∙ ap (λ (j : ℤ). j +ℤ pos q.rest) (value_is r' s (units_of r') q.sign refl)))

pub ceil_unique : (x r r' : Float) → IsCeil x r → IsCeil x r' → r ≡ r'
ceil_unique x r r' p q =
    let s = negative x in
    let d = pos p.rest in
    let d' = pos q.rest in
    same_units r r' p.fit q.fit p.fine q.fine (p.sign ∙ sym q.sign)
    (same_place (2 ^ 1074) (units_of r) q.rest (units_of r') p.rest s (pow_pos 1074) p.whole q.whole q.under_one p.under_one
    (ap (λ (j : ℤ). j +ℤ d') (sym (value_is r s (units_of r) p.sign refl) ∙ p.is)
    ∙ +ℤ_assoc (value_of x) d d' ∙ ap (λ (j : ℤ). value_of x +ℤ j) (+ℤ_comm d d') ∙ sym (+ℤ_assoc (value_of x) d' d)
    ∙ ap (λ (j : ℤ). j +ℤ d) (sym q.is ∙ value_is r' s (units_of r') q.sign refl)))

-- ---- a whole number is its own floor and ceiling
pub floor_whole : (x : Float) → T (fits binary64 x) → T (finite x) → units_of x % 2 ^ 1074 ≡ 0 → floor x ≡ x
floor_whole x f g w = floor_unique x (floor x) x (floor_has x f g) (record { fit = f; fine = g; sign = refl; whole = w; rest = 0; under_one = pow_pos 1074; is = sym (+ℤ_idr (value_of x)) })

pub ceil_whole : (x : Float) → T (fits binary64 x) → T (finite x) → units_of x % 2 ^ 1074 ≡ 0 → ceil x ≡ x
ceil_whole x f g w = ceil_unique x (ceil x) x (ceil_has x f g) (record { fit = f; fine = g; sign = refl; whole = w; rest = 0; under_one = pow_pos 1074; is = sym (+ℤ_idr (value_of x)) })

pub floor_fits : (x : Float) → T (fits binary64 (floor x))
unfolding floor
floor_fits x = whole_fits (negative x) x

pub ceil_fits : (x : Float) → T (fits binary64 (ceil x))
unfolding ceil
ceil_fits x = whole_fits (not (negative x)) x

pub floor_finite : (x : Float) → T (fits binary64 x) → T (finite x) → T (finite (floor x))
floor_finite x f g = (floor_has x f g).fine

pub ceil_finite : (x : Float) → T (fits binary64 x) → T (finite x) → T (finite (ceil x))
ceil_finite x f g = (ceil_has x f g).fine

-- ---- the order
-- the least whole number from a / d on
pub away_least : (a d q : ℕ) → 0 < d → a ≤ q * d → part true a d ≤ q
away_least a d q D h = under (part true a d) q (lt_of_mul-lt-mul_right d (lt_of_lt_of_le (part_away a d D).1 (le_trans (near h) (le_of_eq (sym (native.Mathlib.Nat.suc-mul q d))))))
  where
    near : a ≤ q * d → a + d ≤ q * d + d
    near h = omega arith

    under : (x y : ℕ) → x < suc y → x ≤ y
    under x y h = omega arith

part_mono : (away : Bool) (a d b c : ℕ) → 0 < d → 0 < c → a * c ≤ b * d → part away a d ≤ part away b c
part_mono false a d b c D C h = div_mono a d b c D C h
part_mono true a d b c D C h =
    away_least a d (part true b c) D (le_of_mul-le-mul_right {k = c} (le_trans h (le_trans (mul-le-mul_right d (part_away b c C).0) (le_of_eq (mul_right_comm (part true b c) c d)))) C)

whole_rounded : (away s : Bool) (m : ℕ) (e : ℤ) → Rounded (whole_of away (fin s m e)) (over s (part away (m * up e) (down e))) (under s (part away (m * up e) (down e))) 1
unfolding whole_of
whole_rounded away s m e = record { sign = s; size = part away (m * up e) (down e); is = refl; value = refl }

number : {v : Float} {p n c : ℕ} → Rounded v p n c → 0 < c → T (not (is_nan v))
number {v} {p} {n} {c} r C = order.le_left v v (rounded_le r r C C (omega arith))

part_none : (away : Bool) (a d : ℕ) → 0 < d → a ≡ 0 → part away a d ≤ 0
part_none false a d D h = rw h (le_of_eq (native.Mathlib.Nat.zero-div d))
part_none true a d D h = away_least a d 0 D (omega arith)

-- rounded by the sign: g is the identity for the floor, and `not` for the ceiling
module _ (g : Bool → Bool) where
  cross_mono : (s t : Bool) (a d b c : ℕ) → 0 < d → 0 < c → over s a * c + under t b * d ≤ over t b * d + under s a * c
      → over s (part (g s) a d) * 1 + under t (part (g t) b c) * 1 ≤ over t (part (g t) b c) * 1 + under s (part (g s) a d) * 1
  cross_mono false false a d b c D C h = omega (arith, part_mono (g false) a d b c D C (omega arith))
  cross_mono true true a d b c D C h = omega (arith, part_mono (g true) b c a d C D (omega arith))
  cross_mono true false a d b c D C h = omega arith
  cross_mono false true a d b c D C h =
      omega (arith, part_none (g false) a d D (nothing a c (b * d) C (omega arith)), part_none (g true) b c C (nothing b d (a * c) D (omega arith)))

  whole_mono : (x y : Float) → T (le x y) → T (le (whole_of (g (negative x)) x) (whole_of (g (negative y)) y))
  unfolding negative
  whole_mono nan y h = unfold le in absurd h
  whole_mono (inf s) nan h = unfold le in absurd h
  whole_mono (inf s) (inf t) h = unfold whole_of in h
  whole_mono (inf true) (fin t n d) h = unfold whole_of in order.minus_inf_le (whole_of (g t) (fin t n d)) (number (whole_rounded (g t) t n d) (lit< tt))
  whole_mono (inf false) (fin t n d) h = unfold le in absurd h
  whole_mono (fin s m e) nan h = unfold le in absurd h
  whole_mono (fin s m e) (inf true) h = unfold le in absurd h
  whole_mono (fin s m e) (inf false) h = unfold whole_of in order.le_inf (whole_of (g s) (fin s m e)) (number (whole_rounded (g s) s m e) (lit< tt))
  whole_mono (fin s m e) (fin t n d) h =
      rounded_le (whole_rounded (g s) s m e) (whole_rounded (g t) t n d) (lit< tt) (lit< tt)
      (cross_mono s t (m * up e) (down e) (n * up d) (down d) (down_pos e) (down_pos d) (unfold finite in le→cross (fin s m e) (fin t n d) tt tt h))

pub floor_mono : (x y : Float) → T (le x y) → T (le (floor x) (floor y))
unfolding floor
floor_mono x y h = whole_mono (λ b. b) x y h

pub ceil_mono : (x y : Float) → T (le x y) → T (le (ceil x) (ceil y))
unfolding ceil
ceil_mono x y h = whole_mono not x y h

-- never negative where x is not
pub floor_up : (x : Float) → T (le zero64 x) → T (le zero64 (floor x))
unfolding floor
floor_up x h = floor_mono zero64 x h

pub ceil_up : (x : Float) → T (le zero64 x) → T (le zero64 (ceil x))
unfolding ceil
ceil_up x h = ceil_mono zero64 x h

pub floor_le : (x : Float) → T (fits binary64 x) → T (not (is_nan x)) → T (le (floor x) x)
unfolding floor negative finite
floor_le nan f h = unfold is_nan in absurd h
floor_le (inf s) f h = unfold whole_of in order.le_refl (inf s) h
floor_le (fin false m e) f h =
    rounded_le (whole_rounded false false m e) (own_rounded (fin false m e) tt f) (lit< tt) (down_pos e) (omega (arith, (part_toward (m * up e) (down e) (down_pos e)).0))
floor_le (fin true m e) f h =
    rounded_le (whole_rounded true true m e) (own_rounded (fin true m e) tt f) (lit< tt) (down_pos e) (omega (arith, (part_away (m * up e) (down e) (down_pos e)).0))

pub le_ceil : (x : Float) → T (fits binary64 x) → T (not (is_nan x)) → T (le x (ceil x))
unfolding ceil negative finite
le_ceil nan f h = unfold is_nan in absurd h
le_ceil (inf s) f h = unfold whole_of in order.le_refl (inf s) h
le_ceil (fin false m e) f h =
    rounded_le (own_rounded (fin false m e) tt f) (whole_rounded true false m e) (down_pos e) (lit< tt) (omega (arith, (part_away (m * up e) (down e) (down_pos e)).0))
le_ceil (fin true m e) f h =
    rounded_le (own_rounded (fin true m e) tt f) (whole_rounded false true m e) (down_pos e) (lit< tt) (omega (arith, (part_toward (m * up e) (down e) (down_pos e)).0))

-- the greatest whole number up to x, and the least from x on
pub whole_le_floor : (v x : Float) → T (fits binary64 v) → T (finite v) → units_of v % 2 ^ 1074 ≡ 0 → T (le v x) → T (le v (floor x))
whole_le_floor v x f g w h = subst (λ (r : Float). T (le r (floor x))) (floor_whole v f g w) (floor_mono v x h)

pub ceil_le_whole : (x v : Float) → T (fits binary64 v) → T (finite v) → units_of v % 2 ^ 1074 ≡ 0 → T (le x v) → T (le (ceil x) v)
ceil_le_whole x v f g w h = subst (λ (r : Float). T (le (ceil x) r)) (ceil_whole v f g w) (ceil_mono x v h)
