-- A side of the bounds by plain comparisons is the one by the total order, but for the sign of a zero. Assumes nothing.
use Rattle.std.specs.Prelude.{ℕ, ◌+◌, ◌*◌, ◌≤◌, ◌≡◌, Bool, not, ◌||◌, eqb, ℤ, Float}
use Rattle.std.proofs.Common.{arith, sym, ◌∙◌, nltb→le}
use Rattle.std.proofs.Math.Path.{refl, ap, subst}
use Rattle.std.proofs.Math.Bool.{true, false, cond}
use Rattle.std.specs.Bool.{beq}
use Rattle.std.proofs.Math.Logic.{inl, inr}
use Rattle.std.proofs.Math.Dec.{T}
use Rattle.std.specs.Float.{nan, inf, fin}
use Rattle.std.specs.Float.Ieee.{up, down, is_nan, lt, le, eq}
use Rattle.std.specs.Float.Ieee.Fits.{and_i, eq→eqb, down_pos}
use Rattle.numbers.specs.Num.{zero64}
use Rattle.numbers.specs.Order.{before, smaller, larger}
use Rattle.numbers.specs.Fraction.{nothing}
use Rattle.numbers.specs.Laws as laws
use Rattle.patterns_rules.specs.declared.Bounds.{Bounds}
use Rattle.cross.specs.Cells.{Side, Alike, Settled}

both : {X : Type 0} (b : Bool) → T b → T (not b) → X
both true h k = absurd k
both false h k = absurd h

-- a value of nothing is a zero
nought : (t : Bool) (m : ℕ) (e d : ℤ) → m * up e * down d ≤ 0 → T (eq (fin t m e) zero64)
unfolding eq
nought t m e d h = go t (nothing (m * up e) (down d) 0 (down_pos d) (omega arith))
  where
    go : (t : Bool) → m * up e ≡ 0 → T (eq (fin t m e) zero64)
    go true z =
        let p : m * up e * 1 ≡ 0 * down e = omega arith in
        let q : m * up e * 1 ≡ 0 = omega arith in
        and_i (eqb (m * up e * 1) (0 * down e)) (beq true false || eqb (m * up e * 1) 0) (eq→eqb p) (eq→eqb q)
    go false z = let p : m * up e * 1 ≡ 0 * down e = omega arith in and_i (eqb (m * up e * 1) (0 * down e)) true (eq→eqb p) tt

-- before another and not below it: two zeros
zeros : (x y : Float) → T (before x y) → T (not (lt x y)) → T (eq x zero64) × T (eq y zero64)
unfolding before lt
zeros nan y h k = absurd h
zeros (inf s) nan h k = absurd h
zeros (inf true) (inf true) h k = absurd h
zeros (inf true) (inf false) h k = absurd k
zeros (inf false) (inf t) h k = absurd h
zeros (inf true) (fin t n d) h k = absurd k
zeros (inf false) (fin t n d) h k = absurd h
zeros (fin s m e) nan h k = absurd h
zeros (fin s m e) (inf true) h k = absurd h
zeros (fin s m e) (inf false) h k = absurd k
zeros (fin false m e) (fin false n d) h k = both (lt (fin false m e) (fin false n d)) h k
zeros (fin false m e) (fin true n d) h k = absurd h
zeros (fin true m e) (fin true n d) h k = both (lt (fin true m e) (fin true n d)) h k
zeros (fin true m e) (fin false n d) h k =
    let z : m * up e * down d + n * up d * down e ≤ 0 = nltb→le 0 (m * up e * down d + n * up d * down e) k in
    (nought true m e d (omega (arith, z)), nought false n d e (omega (arith, z)))

-- of two in order, the smaller is the first and the larger the second, whichever is asked first
module _ (x y : Float) (h : T (lt x y)) where
  pub smaller_later : smaller y x ≡ x
  unfolding smaller
  smaller_later = go (is_nan y) (before x y) refl (laws.lt_before x y h)
    where
      go : (a b : Bool) → is_nan y ≡ a → T b → cond a x (cond b x y) ≡ x
      go true b e f = refl
      go false true e f = refl
      go false false e f = absurd f

  pub larger_later : larger x y ≡ y
  unfolding larger
  larger_later = go (is_nan x) (before x y) refl (laws.lt_before x y h)
    where
      go : (a b : Bool) → is_nan x ≡ a → T b → cond a y (cond b y x) ≡ y
      go true b e f = refl
      go false true e f = refl
      go false false e f = absurd f

-- ---- one corner more
module _ (l s x : Float) (i : Side l s) where
  -- the two are of one value
  onto : T (le l s)
  onto = elim i.like [ inl e ↦ subst (λ (v : Float). T (le l v)) e (laws.le_refl l i.number) | inr z ↦ laws.le_trans l zero64 s (laws.eq_le l zero64 z.0) (laws.eq_le zero64 s (laws.eq_sym s zero64 z.1)) ]

  back : T (le s l)
  back = elim i.like [ inl e ↦ subst (λ (v : Float). T (le v l)) e (laws.le_refl l i.number) | inr z ↦ laws.le_trans s zero64 l (laws.eq_le s zero64 z.1) (laws.eq_le zero64 l (laws.eq_sym l zero64 z.0)) ]

  -- of zeros of one value both are
  zero_too : T (eq s zero64) → T (eq l zero64)
  zero_too z = elim i.like [ inl e ↦ subst (λ (v : Float). T (eq v zero64)) (sym e) z | inr p ↦ p.0 ]

  pub least_side : Side (cond (lt x l) x l) (smaller s x)
  unfolding smaller
  least_side = go (lt x l) (is_nan s) (before x s) refl refl refl
    where
      go : (p a b : Bool) → lt x l ≡ p → is_nan s ≡ a → before x s ≡ b → Side (cond p x l) (smaller s x)
      go true a b e f g = let h = laws.lt_le_trans x l s (laws.holds e) onto in record { number = laws.le_left x s (laws.lt_le x s h); like = inl (sym (smaller_later x s h)) }
      go false true b e f g = absurd (subst (λ (v : Bool). T (not v)) f (laws.le_right l s onto))
      go false false false e f g = subst (Side l) (sym (ap (λ (v : Bool). cond v x (cond (before x s) x s)) f ∙ ap (λ (v : Bool). cond v x s) g)) i
      go false false true e f g =
          let z = zeros x s (laws.holds g) (off x s l e back) in
          subst (Side l) (sym (ap (λ (v : Bool). cond v x (cond (before x s) x s)) f ∙ ap (λ (v : Bool). cond v x s) g)) (record { number = i.number; like = inr (zero_too z.1, z.0) })
        where
          off : (x s l : Float) → lt x l ≡ false → T (le s l) → T (not (lt x s))
          off x s l e k = at (lt x s) refl
            where
              at : (b : Bool) → lt x s ≡ b → T (not b)
              at true f = both (lt x l) (laws.lt_le_trans x s l (laws.holds f) k) (laws.fails e)
              at false f = tt

  pub most_side : Side (cond (lt l x) x l) (larger s x)
  unfolding larger
  most_side = go (lt l x) (is_nan s) (before s x) refl refl refl
    where
      go : (p a b : Bool) → lt l x ≡ p → is_nan s ≡ a → before s x ≡ b → Side (cond p x l) (larger s x)
      go true a b e f g = let h = laws.le_lt_trans s l x back (laws.holds e) in record { number = laws.le_right s x (laws.lt_le s x h); like = inl (sym (larger_later s x h)) }
      go false true b e f g = absurd (subst (λ (v : Bool). T (not v)) f (laws.le_right l s onto))
      go false false false e f g = subst (Side l) (sym (ap (λ (v : Bool). cond v x (cond (before s x) x s)) f ∙ ap (λ (v : Bool). cond v x s) g)) i
      go false false true e f g =
          let z = zeros s x (laws.holds g) (off x s l e onto) in
          subst (Side l) (sym (ap (λ (v : Bool). cond v x (cond (before s x) x s)) f ∙ ap (λ (v : Bool). cond v x s) g)) (record { number = i.number; like = inr (zero_too z.0, z.1) })
        where
          off : (x s l : Float) → lt l x ≡ false → T (le l s) → T (not (lt s x))
          off x s l e k = at (lt s x) refl
            where
              at : (b : Bool) → lt s x ≡ b → T (not b)
              at true f = both (lt l x) (laws.le_lt_trans l s x k (laws.holds f)) (laws.fails e)
              at false f = tt

-- ---- the end
same_side : (x y : Float) → Side x y → eq x zero64 ≡ false → x ≡ y
same_side x y i e = elim i.like [ inl p ↦ p | inr z ↦ both (eq x zero64) z.0 (laws.fails e) ]

pub settled_same : (a b : Bounds) → Alike a b → Settled a → a ≡ b
settled_same a b i s =
    ap (λ (v : Float). record { left = v; top = a.top; right = a.right; bottom = a.bottom }) (same_side a.left b.left i.left s.left)
    ∙ ap (λ (v : Float). record { left = b.left; top = v; right = a.right; bottom = a.bottom }) (same_side a.top b.top i.top s.top)
    ∙ ap (λ (v : Float). record { left = b.left; top = b.top; right = v; bottom = a.bottom }) (same_side a.right b.right i.right s.right)
    ∙ ap (λ (v : Float). record { left = b.left; top = b.top; right = b.right; bottom = v }) (same_side a.bottom b.bottom i.bottom s.bottom)
