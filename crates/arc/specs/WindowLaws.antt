-- The point at s is found on the side that s lies on, and on no other: by the rail, and by that side alone. Assumes nothing.
use Rattle.std.specs.Prelude.{ℕ, ◌+◌, ◌-◌, ◌*◌, ◌≤◌, ◌<◌, ◌≡◌, refl, Bool, true, false, List, take, drop, get_or, Float}
use native.Mathlib.Omega.{arith}
use Rattle.std.proofs.Common.{sym, ap, ◌∙◌, length-take, length-drop, get_or-take, get_or-drop}
use Rattle.std.proofs.Math.Path.{subst}
use Rattle.std.proofs.Math.Dec.{T}
use Rattle.std.proofs.Math.ListN.{length}
use Rattle.std.specs.Float.Ieee.{nan, lt, le}
use borrow.Author.Tests.{le-ltb, ne_eqb}
use Rattle.numbers.specs.Num.{zero64}
use Rattle.numbers.specs.FloatOrder.{le_lt_clash, lt_le}
use Rattle.seqs.specs.Tests.{is_true}
use Rattle.geom.specs.declared.point.P.{P}
use Rattle.geom.specs.Point.{point}
use Rattle.geom.specs.Outline.{points}
use Rattle.geom.specs.OutlineLaws.{points_part}
use Rattle.satinrules.specs.Arc.{clamp, last, partition_point, side_end, on_side, at}
use Rattle.arc.specs.Rail.{Rising, Railed}
use Rattle.arc.specs.RailLaws.{partition_at}

never : (b : Bool) → (T b → ⊥) → b ≡ false
never true h = absurd (h tt)
never false h = refl

-- s lies on the side that ends at corner k
pub record On (cum : List Float) (s : Float) (k : ℕ) : Type 0 where
  pub some : 0 < k
  pub few : k < length cum
  pub above : le zero64 s ≡ true
  pub from : le (get_or cum (k - 1) nan) s ≡ true
  pub to : lt s (get_or cum k nan) ≡ true

module _ (ps : List P) (cum : List Float) (s : Float) (k : ℕ) (r : Rising cum) (o : On cum s k) where
  -- no later corner is at most s
  past : (j : ℕ) → k ≤ j → j < length cum → le (get_or cum j nan) s ≡ false
  past j h l =
      never (le (get_or cum j nan) s)
      (λ t. le_lt_clash (get_or cum k nan) s (subst T (sym (r.rises k j s h l (is_true (le (get_or cum j nan) s) t))) tt) (subst T (sym o.to) tt))

  inside : clamp s zero64 (last cum) ≡ s
  unfolding clamp
  inside =
      let below = never (lt s zero64) (λ t. le_lt_clash zero64 s (subst T (sym o.above) tt) t) in
      let beyond = never (lt (last cum) s) (λ t. subst T (past (length cum - 1) (omega (arith, o.few)) (omega (arith, o.few))) (lt_le (last cum) s t)) in
      rw (below, beyond)

  found : partition_point s cum ≡ k
  found = partition_at s cum k (omega (arith, o.few)) (λ i h. r.rises i (k - 1) s (omega arith) (omega (arith, o.few)) o.from) (past k (omega arith))

  end_is : side_end k (length cum) ≡ k
  unfolding side_end
  end_is = rw (le-ltb k 1 o.some, le-ltb (length cum - 1) k (omega (arith, o.few)))

  pub at_side : at ps cum s ≡ on_side ps cum s k
  unfolding at
  at_side = rw (ne_eqb (length cum) 1 (λ e. two e), inside, found, end_is)
    where
      two : length cum ≡ 1 → ⊥
      two e = omega (arith, o.some, o.few)

-- ---- the rail cut to the side that ends at corner k

abbrev pub side_of : {A : Type 0} → ℕ → List A → List A
side_of k l = take (k + 1 - (k - 1)) (drop (k - 1) l)

side_get_d : {A : Type 0} (l : List A) (k i : ℕ) (z : A) → i < 2 → 0 < k → get_or (side_of k l) i z ≡ get_or l (k - 1 + i) z
side_get_d l k i z h p = get_or-take (k + 1 - (k - 1)) (drop (k - 1) l) i z (omega arith) ∙ get_or-drop (k - 1) l i z

side_length : {A : Type 0} (l : List A) (k : ℕ) → 0 < k → k < length l → length (side_of k l) ≡ 2
side_length l k p h = simp (length-take, length-drop) (omega arith)

-- a rail's corners stand in pairs of numbers
abbrev pub flat_side : ℕ → List Float → List Float
flat_side k pts = take (2 * (k + 1) - 2 * (k - 1)) (drop (2 * (k - 1)) pts)

flat_length : (pts : List Float) (k n : ℕ) → 0 < k → k < n → length pts ≡ 2 * n → length (flat_side k pts) ≡ 4
flat_length pts k n p h e =
    let four : 2 * (k + 1) - 2 * (k - 1) ≡ 4 = omega arith in
    let room : 2 * (k - 1) + 4 ≤ length pts = omega arith in
    simp (length-take, length-drop, four) (omega arith)

module _ (pts cum : List Float) (s : Float) (k : ℕ) (r : Railed pts cum) (o : On cum s k) where
  pub side_railed : Railed (flat_side k pts) (side_of k cum)
  side_railed =
      let two = side_length cum k o.some o.few in
      record {
        some = omega (arith, two);
        twice = omega (arith, two, flat_length pts k (length cum) o.some o.few r.twice);
        rising = record { rises = λ i j t h l e. rises i j t h (omega (arith, two)) e };
      }
    where
      rises : (i j : ℕ) (t : Float) → i ≤ j → j < 2 → le (get_or (side_of k cum) j nan) t ≡ true → le (get_or (side_of k cum) i nan) t ≡ true
      rises i j t h l e =
          ap (λ (x : Float). le x t) (side_get_d cum k i nan (omega arith) o.some)
          ∙ r.rising.rises (k - 1 + i) (k - 1 + j) t (omega arith) (omega (arith, o.some, o.few)) (sym (ap (λ (x : Float). le x t) (side_get_d cum k j nan l o.some)) ∙ e)

  side_on : On (side_of k cum) s 1
  side_on =
      let zero_is : k - 1 + 0 ≡ k - 1 = omega arith in
      let one-is : k - 1 + 1 ≡ k = omega (arith, o.some) in
      record {
        some = omega arith;
        few = omega (arith, side_length cum k o.some o.few);
        above = o.above;
        from = ap (λ (x : Float). le x s) (side_get_d cum k 0 nan (omega arith) o.some ∙ ap (λ (i : ℕ). get_or cum i nan) zero_is) ∙ o.from;
        to = ap (λ (x : Float). lt s x) (side_get_d cum k 1 nan (omega arith) o.some ∙ ap (λ (i : ℕ). get_or cum i nan) one-is) ∙ o.to;
      }

  same_side : on_side (side_of k (points pts)) (side_of k cum) s 1 ≡ on_side (points pts) cum s k
  unfolding on_side
  same_side =
      let zero_is : k - 1 + 0 ≡ k - 1 = omega arith in
      let one-is : k - 1 + 1 ≡ k = omega (arith, o.some) in
      rw (side_get_d (points pts) k 0 (point nan nan) (omega arith) o.some, side_get_d (points pts) k 1 (point nan nan) (omega arith) o.some, side_get_d cum k 0 nan (omega arith) o.some, side_get_d cum k 1 nan (omega arith) o.some, zero_is, one-is)

  pub side_at : at (points (flat_side k pts)) (side_of k cum) s ≡ at (points pts) cum s
  side_at =
      ap (λ (ps : List P). at ps (side_of k cum) s) (points_part (k - 1) (k + 1) pts)
      ∙ at_side (side_of k (points pts)) (side_of k cum) s 1 side_railed.rising side_on
      ∙ same_side
      ∙ sym (at_side (points pts) cum s k r.rising o)
