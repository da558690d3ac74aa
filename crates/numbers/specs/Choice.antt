-- `smaller` and `larger` give one of the two, and neither of the two lies past it; `magnitude` is the value without its sign.
use Rattle.std.specs.Prelude.{◌≡◌, refl, Bool, false, not, cond, ◌⊎◌, T, Float}
use Rattle.std.proofs.Common.{sym, subst, inl, inr, arith}
use Rattle.std.proofs.Math.Bool.{true}
use Rattle.std.specs.Float.{nan, inf, fin}
use Rattle.std.specs.Float.Ieee.{binary64, fits, is_nan, le, neg}
use Rattle.std.specs.Float.Ieee.Fits.{neg-fits}
use Rattle.numbers.specs.Num.{zero64}
use Rattle.numbers.specs.Order.{before, smaller, larger, magnitude, finite}
use Rattle.numbers.specs.Value.{units_of}
use Rattle.numbers.specs.Fraction.{cross→le}
use Rattle.numbers.specs.FloatOrder.{le_refl}
use Rattle.numbers.specs.OrderLaws.{before_irrefl, before_asym, before_left, before_right, not_before_le}

pub smaller_has : (P : Float → Type 0) (x y : Float) → P x → P y → P (smaller x y)
unfolding smaller
smaller_has P x y p q = go (is_nan x) (before y x)
  where
    go : (a b : Bool) → P (cond a y (cond b y x))
    go true b = q
    go false true = q
    go false false = p

pub larger_has : (P : Float → Type 0) (x y : Float) → P x → P y → P (larger x y)
unfolding larger
larger_has P x y p q = go (is_nan x) (before x y)
  where
    go : (a b : Bool) → P (cond a y (cond b y x))
    go true b = q
    go false true = q
    go false false = p

odd_one_out : (x : Float) → is_nan x ≡ true → T (not (is_nan x)) → ⊥
odd_one_out x e h = subst (λ (b : Bool). T (not b)) e h

pub smaller_left : (x y : Float) → T (before x (smaller x y)) → ⊥
unfolding smaller
smaller_left x y = go (is_nan x) (before y x) refl refl
  where
    go : (a b : Bool) → is_nan x ≡ a → before y x ≡ b → T (before x (cond a y (cond b y x))) → ⊥
    go true b e f h = odd_one_out x e (before_left x y h)
    go false true e f h = before_asym x y h (subst T (sym f) tt)
    go false false e f h = before_irrefl x h

pub smaller_right : (x y : Float) → T (before y (smaller x y)) → ⊥
unfolding smaller
smaller_right x y = go (is_nan x) (before y x) refl
  where
    go : (a b : Bool) → before y x ≡ b → T (before y (cond a y (cond b y x))) → ⊥
    go true b f h = before_irrefl y h
    go false true f h = before_irrefl y h
    go false false f h = subst T f h

pub larger_left : (x y : Float) → T (before (larger x y) x) → ⊥
unfolding larger
larger_left x y = go (is_nan x) (before x y) refl refl
  where
    go : (a b : Bool) → is_nan x ≡ a → before x y ≡ b → T (before (cond a y (cond b y x)) x) → ⊥
    go true b e f h = odd_one_out x e (before_right y x h)
    go false true e f h = before_asym y x h (subst T (sym f) tt)
    go false false e f h = before_irrefl x h

pub larger_right : (x y : Float) → T (before (larger x y) y) → ⊥
unfolding larger
larger_right x y = go (is_nan x) (before x y) refl
  where
    go : (a b : Bool) → before x y ≡ b → T (before (cond a y (cond b y x)) y) → ⊥
    go true b f h = before_irrefl y h
    go false true f h = before_irrefl y h
    go false false f h = subst T f h

-- ---- the same by `le`
pub smaller_le_left : (x y : Float) → T (not (is_nan x)) → T (not (is_nan y)) → T (le (smaller x y) x)
smaller_le_left x y p q = not_before_le (smaller x y) x (smaller_has (λ v. T (not (is_nan v))) x y p q) p (smaller_left x y)

pub smaller_le_right : (x y : Float) → T (not (is_nan x)) → T (not (is_nan y)) → T (le (smaller x y) y)
smaller_le_right x y p q = not_before_le (smaller x y) y (smaller_has (λ v. T (not (is_nan v))) x y p q) q (smaller_right x y)

pub le_larger_left : (x y : Float) → T (not (is_nan x)) → T (not (is_nan y)) → T (le x (larger x y))
le_larger_left x y p q = not_before_le x (larger x y) p (larger_has (λ v. T (not (is_nan v))) x y p q) (larger_left x y)

pub le_larger_right : (x y : Float) → T (not (is_nan x)) → T (not (is_nan y)) → T (le y (larger x y))
le_larger_right x y p q = not_before_le y (larger x y) q (larger_has (λ v. T (not (is_nan v))) x y p q) (larger_right x y)

-- ---- the magnitude
pub magnitude_fits : (x : Float) → T (fits binary64 x) → T (fits binary64 (magnitude x))
unfolding magnitude
magnitude_fits nan h = h
magnitude_fits (inf s) h = unfold fits in tt
magnitude_fits (fin false m e) h = h
magnitude_fits (fin true m e) h = unfold neg in neg-fits binary64 (fin true m e) h

pub magnitude_finite : (x : Float) → T (finite x) → T (finite (magnitude x))
unfolding magnitude finite
magnitude_finite nan h = h
magnitude_finite (inf s) h = h
magnitude_finite (fin s m e) h = tt

pub magnitude_units : (x : Float) → units_of (magnitude x) ≡ units_of x
unfolding magnitude units_of
magnitude_units nan = refl
magnitude_units (inf s) = refl
magnitude_units (fin s m e) = refl

pub magnitude_is : (x : Float) → (magnitude x ≡ x) ⊎ (magnitude x ≡ neg x)
unfolding magnitude neg
magnitude_is nan = inl refl
magnitude_is (inf true) = inr refl
magnitude_is (inf false) = inl refl
magnitude_is (fin true m e) = inr refl
magnitude_is (fin false m e) = inl refl

pub magnitude_up : (x : Float) → T (not (is_nan x)) → T (le zero64 (magnitude x))
unfolding magnitude is_nan finite
magnitude_up nan p = absurd p
magnitude_up (inf s) p = unfold le in tt
magnitude_up (fin s m e) p = cross→le zero64 (fin false m e) tt tt (omega arith)

pub le_magnitude : (x : Float) → T (not (is_nan x)) → T (le x (magnitude x))
unfolding magnitude is_nan finite
le_magnitude nan p = absurd p
le_magnitude (inf true) p = unfold le in tt
le_magnitude (inf false) p = unfold le in tt
le_magnitude (fin true m e) p = cross→le (fin true m e) (fin false m e) tt tt (omega arith)
le_magnitude (fin false m e) p = le_refl (fin false m e) (unfold is_nan in tt)

pub neg_le_magnitude : (x : Float) → T (not (is_nan x)) → T (le (neg (magnitude x)) x)
unfolding magnitude is_nan finite neg
neg_le_magnitude nan p = absurd p
neg_le_magnitude (inf true) p = unfold le in tt
neg_le_magnitude (inf false) p = unfold le in tt
neg_le_magnitude (fin true m e) p = le_refl (fin true m e) (unfold is_nan in tt)
neg_le_magnitude (fin false m e) p = cross→le (fin true m e) (fin false m e) tt tt (omega arith)
