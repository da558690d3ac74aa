-- A side whose ends are no farther right than a point adds nothing to its winding number, since rounding keeps the order. Assumes nothing.
use Rattle.std.proofs.Common.{mul-pos, arith, inl, inr, lit<, lit≤}
use Rattle.std.specs.Prelude.{◌≡◌, Bool, ◌&&◌, List, [], ◌∷◌, T, ℤ, pos, negsuc, Float}
use Rattle.std.proofs.Math.Path.{refl}
use Rattle.std.proofs.Math.Bool.{true, false, cond}
use Rattle.std.proofs.Math.IntN.{+ℤ_idl}
use Rattle.std.specs.Float.Ieee.{lt, le}
use Rattle.std.specs.Float.Ieee.Positive.{den_pos}
use Rattle.numbers.specs.Num.{◌⊗◌, ◌⊖◌, zero64}
use Rattle.numbers.specs.Order.{finite}
use Rattle.numbers.specs.Value.{Within}
use Rattle.numbers.specs.Laws as laws
use Rattle.numbers.specs.Laws.{holds}
use Rattle.numbers.specs.Fraction.{le→cross}
use Rattle.numbers.specs.Rounded.{rounded_le, sub_rounded}
use Rattle.numbers.specs.Monotone.{zero_rounded}
use Rattle.seqs.specs.Tests.{clash, is_true, refute}
use Rattle.seqs.specs.Lists.{All}
use Rattle.geom.specs.declared.point.P.{P}
use Rattle.geom.specs.Point.{minus, cross}
use Rattle.outlines.specs.Winding.{edge, edges}
use Rattle.outlines.specs.Runs.{chain}
use Rattle.outlines.specs.Heights.{Left}

-- x ⊖ y is not above zero where x ≤ y
sub_not_up : (x y : Float) → T (finite x) → T (finite y) → T (le x y) → T (le (x ⊖ y) zero64)
sub_not_up x y f g h = rounded_le (sub_rounded x y f g) zero_rounded (mul-pos (den_pos x) (den_pos y)) (lit< tt) (omega (arith, le→cross x y f g h))

module _ (a b p : P) (h : Left a.x a.y p.x) (k : Left b.x b.y p.x) (wide : Within 20 p.x) (tall : Within 20 p.y) where
  abbrev u : Float
  u = b.x ⊖ a.x

  abbrev v : Float
  v = p.x ⊖ a.x

  abbrev s : Float
  s = p.y ⊖ a.y

  abbrev t : Float
  t = b.y ⊖ a.y

  near : (x y : Float) → Within 20 x → Within 20 y → Within 21 (x ⊖ y)
  near x y = laws.within_sub 20 x y (lit≤ tt)

  fine : (x : Float) → Within 20 x → T (finite x)
  fine = laws.within_finite 20

  fine_difference : (x y : Float) → Within 20 x → Within 20 y → T (finite (x ⊖ y))
  fine_difference x y i j = laws.within_finite 21 (x ⊖ y) (near x y i j)

  fine_product : (x y z w : Float) → Within 20 x → Within 20 y → Within 20 z → Within 20 w → T (finite ((x ⊖ y) ⊗ (z ⊖ w)))
  fine_product x y z w i j m n = laws.within_finite 42 ((x ⊖ y) ⊗ (z ⊖ w)) (laws.within_mul 21 21 (x ⊖ y) (z ⊖ w) (lit≤ tt) (near x y i j) (near z w m n))

  fu : T (finite u)
  fu = fine_difference b.x a.x k.wide h.wide

  fv : T (finite v)
  fv = fine_difference p.x a.x wide h.wide

  fs : T (finite s)
  fs = fine_difference p.y a.y tall h.tall

  ft : T (finite t)
  ft = fine_difference b.y a.y k.tall h.tall

  us : T (finite (u ⊗ s))
  us = fine_product b.x a.x p.y a.y k.wide h.wide tall h.tall

  tv : T (finite (t ⊗ v))
  tv = fine_product b.y a.y p.x a.x k.tall h.tall wide h.wide

  a_fine : T (finite a.y)
  a_fine = fine a.y h.tall

  u_v : T (le u v)
  u_v = laws.sub_mono b.x p.x a.x a.x (fine b.x k.wide) (fine p.x wide) (fine a.x h.wide) (fine a.x h.wide) k.west (laws.le_refl a.x (laws.finite_number a.x (fine a.x h.wide)))

  v_up : T (le zero64 v)
  v_up = laws.sub_up p.x a.x (fine p.x wide) (fine a.x h.wide) h.west

  -- a side that goes up past p
  upward : T (le a.y p.y) → T (lt p.y b.y) → T (le (cross (minus b a) (minus p a)) zero64)
  upward i j =
      let s-t = laws.sub_mono p.y b.y a.y a.y (fine p.y tall) (fine b.y k.tall) a_fine a_fine (laws.lt_le p.y b.y j) (laws.le_refl a.y (laws.finite_number a.y a_fine)) in
      let m = laws.mul_mono u v s fu fv fs (laws.sub_up p.y a.y (fine p.y tall) a_fine i) u_v in
      let n = laws.mul_mono s t v fs ft fv v_up s-t in
      sub_not_up (u ⊗ s) (t ⊗ v) us tv (laws.le_trans (u ⊗ s) (v ⊗ s) (t ⊗ v) m (rw (laws.⊗-comm s v) at n))

  -- a side that goes down past p
  downward : T (lt p.y a.y) → T (le b.y p.y) → T (le zero64 (cross (minus b a) (minus p a)))
  downward i j =
      let t-s = laws.sub_mono b.y p.y a.y a.y (fine b.y k.tall) (fine p.y tall) a_fine a_fine j (laws.le_refl a.y (laws.finite_number a.y a_fine)) in
      let m = laws.mul_anti u v s fu fv fs (sub_not_up p.y a.y (fine p.y tall) a_fine (laws.lt_le p.y a.y i)) u_v in
      let n = laws.mul_mono t s v ft fs fv v_up t-s in
      laws.sub_up (u ⊗ s) (t ⊗ v) us tv (laws.le_trans (t ⊗ v) (v ⊗ s) (u ⊗ s) (rw (laws.⊗-comm s v) at n) m)

  edge_left : edge a b p ≡ pos 0
  unfolding edge
  edge_left = go (le a.y p.y) refl
    where
      none : (x y : Bool) (z w : ℤ) → (x ≡ true → y ≡ false) → cond (x && y) z w ≡ w
      none true y z w f = rw (f refl)
      none false y z w f = refl

      go : (c : Bool) → le a.y p.y ≡ c → cond c (cond (lt p.y b.y && lt zero64 (cross (minus b a) (minus p a))) (pos 1) (pos 0)) (cond (le b.y p.y && lt (cross (minus b a) (minus p a)) zero64) (negsuc 0) (pos 0)) ≡ pos 0
      go true e = none (lt p.y b.y) (lt zero64 (cross (minus b a) (minus p a))) (pos 1) (pos 0) (λ j. refute (lt zero64 (cross (minus b a) (minus p a))) (λ z. absurd (laws.le_lt_clash (cross (minus b a) (minus p a)) zero64 (upward (holds e) (holds j)) (holds z))))
      go false e = none (le b.y p.y) (lt (cross (minus b a) (minus p a)) zero64) (negsuc 0) (pos 0)
          (λ j. elim (laws.le_or_lt a.y p.y (laws.finite_number a.y a_fine) (laws.finite_number p.y (fine p.y tall))) [
            | inl i ↦ clash (is_true (le a.y p.y) i) e
            | inr i ↦ refute (lt (cross (minus b a) (minus p a)) zero64) (λ z. absurd (laws.le_lt_clash zero64 (cross (minus b a) (minus p a)) (downward i (holds j)) (holds z)))
          ])

-- a run of such sides
pub chain_left : (p : P) (l : List P) → Within 20 p.x → Within 20 p.y → All (λ a. Left a.x a.y p.x) l → chain p l ≡ pos 0
unfolding chain edges
chain_left p [] w t h = refl
chain_left p (a ∷ []) w t h = refl
chain_left p (a ∷ b ∷ l) w t h = rw (edge_left a b p h.0 h.1.0 w t, +ℤ_idl (edges p b l)) (chain_left p (b ∷ l) w t h.1)
