-- `le` and `lt` order the floats: transitive, and off NaN total, each the other's denial.
use Rattle.std.specs.Prelude.{◌≡◌, refl, Bool, not, ◌||◌, ◌⊎◌, ℕ, ◌+◌, ◌*◌, ◌≤◌, ◌<◌, T, eqb, Float}
use Rattle.std.proofs.Common.{sym, subst, le_of_mul-le-mul_right, mul-le-mul_right, eqb→eq}
use Rattle.std.proofs.Math.Bool.{true, false}
use Rattle.std.specs.Bool.{beq}
use Rattle.std.proofs.Math.Logic.{inl, inr}
use Rattle.std.proofs.Math.Decide.{dec_le}
use native.Mathlib.Omega.{arith}
use Rattle.std.specs.Float.{nan, inf, fin}
use Rattle.std.specs.Float.Ieee.{up, down, level, neg, lt, eq, le, is_nan}
use Rattle.std.specs.Float.Ieee.Fits.{down_pos, and_l}
use Rattle.numbers.specs.Order.{finite}
use Rattle.numbers.specs.Fraction.{over, under, le→cross, cross→le, lt→cross, cross→lt}

-- three fractions (p - n) / d
pub through : (p n d p' n' d' p'' n'' d'' : ℕ) → 0 < d' → p * d' + n' * d ≤ p' * d + n * d' → p' * d'' + n'' * d' ≤ p'' * d' + n' * d'' → p * d'' + n'' * d ≤ p'' * d + n * d''
through p n d p' n' d' p'' n'' d'' D h k = le_of_mul-le-mul_right {k = d'} (omega (arith, mul-le-mul_right d'' h, mul-le-mul_right d k)) D

pub le_trans : (x y z : Float) → T (le x y) → T (le y z) → T (le x z)
le_trans nan y z h k = unfold le in absurd h
le_trans (inf true) nan z h k = unfold le in absurd h
le_trans (inf true) (inf t) nan h k = unfold le in absurd k
le_trans (inf true) (fin t n d) nan h k = unfold le in absurd k
le_trans (inf true) (inf t) (inf true) h k = unfold le in tt
le_trans (inf true) (inf t) (inf false) h k = unfold le in tt
le_trans (inf true) (fin t n d) (inf true) h k = unfold le in absurd k
le_trans (inf true) (fin t n d) (inf false) h k = unfold le in tt
le_trans (inf true) (inf t) (fin u l g) h k = unfold le in tt
le_trans (inf true) (fin t n d) (fin u l g) h k = unfold le in tt
le_trans (inf false) nan z h k = unfold le in absurd h
le_trans (inf false) (inf true) z h k = unfold le in absurd h
le_trans (inf false) (inf false) z h k = k
le_trans (inf false) (fin t n d) z h k = unfold le in absurd h
le_trans (fin s m e) nan z h k = unfold le in absurd h
le_trans (fin s m e) (inf true) z h k = unfold le in absurd h
le_trans (fin s m e) (inf false) nan h k = unfold le in absurd k
le_trans (fin s m e) (inf false) (inf true) h k = unfold le in absurd k
le_trans (fin s m e) (inf false) (inf false) h k = h
le_trans (fin s m e) (inf false) (fin u l g) h k = unfold le in absurd k
le_trans (fin s m e) (fin t n d) nan h k = unfold le in absurd k
le_trans (fin s m e) (fin t n d) (inf u) h k = unfold le in k
le_trans (fin s m e) (fin t n d) (fin u l g) h k = unfold finite in
    cross→le (fin s m e) (fin u l g) tt tt
    (through (over s (m * up e)) (under s (m * up e)) (down e) (over t (n * up d)) (under t (n * up d)) (down d) (over u (l * up g)) (under u (l * up g)) (down g) (down_pos d)
    (le→cross (fin s m e) (fin t n d) tt tt h) (le→cross (fin t n d) (fin u l g) tt tt k))

pub le_or_lt : (x y : Float) → T (not (is_nan x)) → T (not (is_nan y)) → T (le x y) ⊎ T (lt y x)
unfolding le lt is_nan
le_or_lt nan y p q = absurd p
le_or_lt (inf s) nan p q = absurd q
le_or_lt (inf true) (inf true) p q = inl tt
le_or_lt (inf true) (inf false) p q = inl tt
le_or_lt (inf false) (inf true) p q = inr tt
le_or_lt (inf false) (inf false) p q = inl tt
le_or_lt (inf true) (fin t n d) p q = inl tt
le_or_lt (inf false) (fin t n d) p q = inr tt
le_or_lt (fin s m e) nan p q = absurd q
le_or_lt (fin s m e) (inf true) p q = inr tt
le_or_lt (fin s m e) (inf false) p q = inl tt
le_or_lt (fin s m e) (fin t n d) p q = go (dec_le (over s (m * up e) * down d + under t (n * up d) * down e) (over t (n * up d) * down e + under s (m * up e) * down d))
  where
    go : Dec (over s (m * up e) * down d + under t (n * up d) * down e ≤ over t (n * up d) * down e + under s (m * up e) * down d) → T (le (fin s m e) (fin t n d)) ⊎ T (lt (fin t n d) (fin s m e))
    go (yes l) = unfold finite in inl (cross→le (fin s m e) (fin t n d) tt tt l)
    go (no g) = unfold finite in inr (cross→lt (fin t n d) (fin s m e) tt tt (omega arith))

pub le_lt_clash : (x y : Float) → T (le x y) → T (lt y x) → ⊥
unfolding le lt
le_lt_clash nan y h k = h
le_lt_clash (inf s) nan h k = h
le_lt_clash (inf true) (inf true) h k = k
le_lt_clash (inf true) (inf false) h k = k
le_lt_clash (inf false) (inf true) h k = h
le_lt_clash (inf false) (inf false) h k = k
le_lt_clash (inf true) (fin t n d) h k = k
le_lt_clash (inf false) (fin t n d) h k = h
le_lt_clash (fin s m e) nan h k = h
le_lt_clash (fin s m e) (inf true) h k = h
le_lt_clash (fin s m e) (inf false) h k = k
le_lt_clash (fin s m e) (fin t n d) h k = unfold finite in
    omega (arith, le→cross (fin s m e) (fin t n d) tt tt h, lt→cross (fin t n d) (fin s m e) tt tt k)

-- what stands in an order that holds is no NaN
pub le_left : (x y : Float) → T (le x y) → T (not (is_nan x))
unfolding le is_nan
le_left nan y h = h
le_left (inf s) y h = tt
le_left (fin s m e) y h = tt

pub le_right : (x y : Float) → T (le x y) → T (not (is_nan y))
unfolding le is_nan
le_right nan y h = absurd h
le_right (inf s) nan h = h
le_right (inf s) (inf t) h = tt
le_right (inf s) (fin t n d) h = tt
le_right (fin s m e) nan h = h
le_right (fin s m e) (inf t) h = tt
le_right (fin s m e) (fin t n d) h = tt

-- the infinities are the ends
pub minus_inf_le : (v : Float) → T (not (is_nan v)) → T (le (inf true) v)
unfolding le is_nan
minus_inf_le nan h = h
minus_inf_le (inf true) h = tt
minus_inf_le (inf false) h = tt
minus_inf_le (fin s m e) h = tt

pub le_inf : (v : Float) → T (not (is_nan v)) → T (le v (inf false))
unfolding le is_nan
le_inf nan h = h
le_inf (inf true) h = tt
le_inf (inf false) h = tt
le_inf (fin s m e) h = tt

pub finite_number : (x : Float) → T (finite x) → T (not (is_nan x))
unfolding finite is_nan
finite_number nan h = h
finite_number (inf s) h = tt
finite_number (fin s m e) h = tt

-- what lies between finite numbers is finite
pub between_finite : (lo x hi : Float) → T (finite lo) → T (finite hi) → T (le lo x) → T (le x hi) → T (finite x)
unfolding le lt eq finite
between_finite nan _ hi f g h k = elim f [ ]
between_finite (inf _) _ hi f g h k = elim f [ ]
between_finite (fin s m e) (inf false) nan f g h k = elim g [ ]
between_finite (fin s m e) (inf false) (inf _) f g h k = elim g [ ]
between_finite (fin s m e) nan hi f g h k = absurd h
between_finite (fin s m e) (inf true) hi f g h k = absurd h
between_finite (fin s m e) (inf false) (fin s' m' e') f g h k = absurd k
between_finite (fin s m e) (fin s' m' e') hi f g h k = tt

pub lt_le : (x y : Float) → T (lt x y) → T (le x y)
unfolding le
lt_le x y h = go (lt x y) h
  where
    go : (b : Bool) → T b → T (b || eq x y)
    go true t = tt
    go false t = absurd t

pub eq_le : (x y : Float) → T (eq x y) → T (le x y)
unfolding le
eq_le x y h = go (lt x y) h
  where
    go : (b : Bool) → T (eq x y) → T (b || eq x y)
    go true t = tt
    go false t = t

pub le_refl : (x : Float) → T (not (is_nan x)) → T (le x x)
le_refl x p = elim (le_or_lt x x p p) [ inl h ↦ h | inr k ↦ lt_le x x k ]

pub le_lt_trans : (x y z : Float) → T (le x y) → T (lt y z) → T (lt x z)
le_lt_trans x y z h k = elim (le_or_lt z x (le_right y z (lt_le y z k)) (le_left x y h)) [ inl p ↦ absurd (le_lt_clash z y (le_trans z x y p h) k) | inr q ↦ q ]

pub lt_le_trans : (x y z : Float) → T (lt x y) → T (le y z) → T (lt x z)
lt_le_trans x y z h k = elim (le_or_lt z x (le_right y z k) (le_left x y (lt_le x y h))) [ inl p ↦ absurd (le_lt_clash y x (le_trans y z x k p) h) | inr q ↦ q ]

pub lt_trans : (x y z : Float) → T (lt x y) → T (lt y z) → T (lt x z)
lt_trans x y z h k = le_lt_trans x y z (lt_le x y h) k

pub lt_irrefl : (x : Float) → T (lt x x) → ⊥
lt_irrefl x h = le_lt_clash x x (lt_le x x h) h

pub eq_sym : (x y : Float) → T (eq x y) → T (eq y x)
unfolding eq
eq_sym nan y h = absurd h
eq_sym (inf s) nan h = absurd h
eq_sym (inf true) (inf true) h = tt
eq_sym (inf true) (inf false) h = h
eq_sym (inf false) (inf true) h = h
eq_sym (inf false) (inf false) h = tt
eq_sym (inf s) (fin t n d) h = absurd h
eq_sym (fin s m e) nan h = absurd h
eq_sym (fin s m e) (inf t) h = absurd h
eq_sym (fin s m e) (fin t n d) h =
    let a = m * up e * down d in
    let b = n * up d * down e in
    let p : a ≡ b = eqb→eq a b (and_l (eqb a b) (beq s t || eqb a 0) h) in
    subst (λ (c : ℕ). T (level t b s c)) (sym p) (alike s t b (subst (λ (c : ℕ). T (level s c t b)) p h))
  where
    alike : (s t : Bool) (b : ℕ) → T (level s b t b) → T (level t b s b)
    alike true true b h = h
    alike true false b h = h
    alike false true b h = h
    alike false false b h = h

pub neg_neg : (x : Float) → neg (neg x) ≡ x
unfolding neg
neg_neg nan = refl
neg_neg (inf true) = refl
neg_neg (inf false) = refl
neg_neg (fin true m e) = refl
neg_neg (fin false m e) = refl

-- ---- the other sign turns the order round
pub neg_le : (x y : Float) → T (le x y) → T (le (neg y) (neg x))
neg_le nan y h = unfold le in absurd h
neg_le (inf s) nan h = unfold le in absurd h
neg_le (inf true) (inf true) h = unfold le neg in tt
neg_le (inf true) (inf false) h = unfold le neg in tt
neg_le (inf false) (inf true) h = unfold le in absurd h
neg_le (inf false) (inf false) h = unfold le neg in tt
neg_le (inf true) (fin t n d) h = unfold le neg in tt
neg_le (inf false) (fin t n d) h = unfold le in absurd h
neg_le (fin s m e) nan h = unfold le in absurd h
neg_le (fin s m e) (inf true) h = unfold le in absurd h
neg_le (fin s m e) (inf false) h = unfold le neg in tt
neg_le (fin s m e) (fin t n d) h = unfold finite neg in cross→le (fin (not t) n d) (fin (not s) m e) tt tt (turn s t (m * up e) (n * up d) (down e) (down d) (le→cross (fin s m e) (fin t n d) tt tt h))
  where
    turn : (s t : Bool) (a b p q : ℕ) → over s a * q + under t b * p ≤ over t b * p + under s a * q → over (not t) b * p + under (not s) a * q ≤ over (not s) a * q + under (not t) b * p
    turn true true a b p q h = omega arith
    turn true false a b p q h = omega arith
    turn false true a b p q h = omega arith
    turn false false a b p q h = omega arith
