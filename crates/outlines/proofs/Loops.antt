-- The turns of the loops: one step, the start and the end of what each works out, and signed sums that fit. Assumes nothing.
use Prim.Native.Nat.{ℕ, suc, ◌+◌, ◌-◌, ◌*◌, ◌/◌, ◌%◌, ◌^◌, ◌≤◌, ◌<◌}
use native.Mathlib.Omega.{arith}
use mathlib.Core.Path.{◌≡◌, sym, ◌∙◌}
use mathlib.Core.Bool.{Bool, true, false, ◌&&◌, cond}
use mathlib.Core.List.{List, [], ◌∷◌}
use lib.Dec.{eqb}
use lib.ListN.{length, take, drop, get_or, length-take, length-drop}
use lib.Seq.{drop-drop, length-take-le}
use lib.IntN.{ℤ, pos, ◌+ℤ◌, nat_abs, +ℤ_assoc, +ℤ_idr}
use lib.Ieee.{Float, le}
use mir.Syntax.{w64}
use mir.Val.{SFits, to_z, of_z}
use borrow.Author.Tests.{le-ltb, lt-ltb, eq-eqb, ne_eqb}
use Rattle.seqs.specs.Signed.{nat_abs_add, sum_small, back}
use Rattle.geom.specs.declared.point.P.{P}
use Rattle.geom.specs.Outline.{points, cut}
use Rattle.geom.specs.OutlineLaws.{corner_at, points_next, points_length, points_last, points_part, cut_next, cut_none}
use Rattle.outlines.specs.Winding.{edge, edges, ring, winding}
use Rattle.outlines.specs.Runs.{chain, lows, one_side}
use Rattle.outlines.specs.declared.rule.FillRule.{FillRule}
use Rattle.geom.specs.Steps.{along}
use Rattle.outlines.specs.Inside.{point_inside, steps_inside}
use Rattle.outlines.specs.WindingLaws.{chain_split, chain_small, ring_small}

-- ---- signed sums: w in its bits, and r as a call answers it

pub record Sum (w : ℕ) (r : ℤ) (n : ℕ) : Type 0 where
  pub fits : SFits w64 (to_z w64 w +ℤ to_z w64 (of_z w64 r))
  pub is : to_z w64 (of_z w64 (to_z w64 w +ℤ to_z w64 (of_z w64 r))) ≡ to_z w64 w +ℤ r
  pub small : nat_abs (to_z w64 (of_z w64 (to_z w64 w +ℤ to_z w64 (of_z w64 r)))) ≤ n

pub sum : (w : ℕ) (r : ℤ) (n : ℕ) → nat_abs (to_z w64 w) + nat_abs r ≤ n → n < 2 ^ 63 → Sum w r n
sum w r n h k =
    let e = back r n (omega arith) k in
    let d = back (to_z w64 w +ℤ r) n (omega (arith, nat_abs_add (to_z w64 w) r)) k in
    record { fits = rw e (sum_small (to_z w64 w) r n h k); is = rw e d; small = rw (e, d) (omega (arith, nat_abs_add (to_z w64 w) r)) }

-- ---- how many corners have at most this y

pub lows_few : (y : Float) (l : List P) → lows y l ≤ length l
unfolding lows
lows_few y [] = omega arith
lows_few y (a ∷ l) = few (le a.y y) (lows_few y l)
  where
    few : {n m : ℕ} (b : Bool) → n ≤ m → cond b 1 0 + n ≤ suc m
    few true h = omega arith
    few false h = omega arith

module _ (y : Float) (l : List Float) where
  pub none_of_them : lows y (points l) ≡ 0 → true ≡ one_side y (points l)
  unfolding one_side
  none_of_them h = rw (eq-eqb _ _ h)

  pub all_of_them : (c : ℕ) → lows y (points l) ≡ c → (c ≡ 0 → ⊥) → eqb c (length l / 2) ≡ one_side y (points l)
  unfolding one_side
  all_of_them c h k = rw (h, ne_eqb c 0 k, points_length l)

-- ---- a ring, eight edges at a time

module _ (p : P) (l : List Float) where
  pub ring_short : length l < 6 → ring p (points l) ≡ pos 0
  unfolding ring
  ring_short h = rw (lt-ltb (length (points l)) 3 (omega (arith, points_length l)))

  -- the edge from the last corner comes first
  pub ring_start : length l % 2 ≡ 0 → 5 < length l → ring p (points l) ≡ edge (corner_at l (length l - 2)) (corner_at l 0) p +ℤ chain p (points l)
  unfolding ring edges chain
  ring_start even h = rw (le-ltb (length (points l)) 3 (omega (arith, points_length l)), points_last l _ even (omega arith), points_next l 0 (omega arith))

  -- the part from k to e, and what is left from its last corner on
  pub ring_next : (z : ℤ) (k e : ℕ) → k < e → e ≤ length l / 2 → z +ℤ chain p (drop k (points l)) ≡ (z +ℤ chain p (points (take (2 * e - 2 * k) (drop (2 * k) l)))) +ℤ chain p (drop (e - 1) (points l))
  ring_next z k e h n =
      let m = drop k (points l) in
      let j : suc (e - 1 - k) ≡ e - k = omega arith in
      let i : k + (e - 1 - k) ≡ e - 1 = omega arith in
      let q : chain p m ≡ chain p (take (e - k) m) +ℤ chain p (drop (e - 1) (points l)) = chain_split p (e - 1 - k) m (omega (arith, points_length l, length-drop k (points l))) ∙ rw (j, drop-drop (e - 1 - k) k (points l), i) in
      rw (q, points_part k e l) (sym (+ℤ_assoc z _ _))

  pub run_small : (k e : ℕ) → nat_abs (chain p (points (take (2 * e - 2 * k) (drop (2 * k) l)))) ≤ e - k - 1
  run_small k e =
      let m = take (2 * e - 2 * k) (drop (2 * k) l) in
      omega (arith, chain_small p (points m), points_length m, length-take (2 * e - 2 * k) (drop (2 * k) l))

  -- a last corner alone has no side
  pub ring_end : (z : ℤ) (k : ℕ) → length l / 2 ≤ k + 1 → z +ℤ chain p (drop k (points l)) ≡ z
  ring_end z k h = go (drop k (points l)) (omega (arith, length-drop k (points l), points_length l))
    where
      go : (m : List P) → length m ≤ 1 → z +ℤ chain p m ≡ z
      go [] q = unfold chain in +ℤ_idr z
      go (a ∷ []) q = unfold chain edges in +ℤ_idr z
      go (a ∷ b ∷ m) q = absurd (omega arith)

-- ---- the rings

-- a ring lent as a part of the corners
pub part_even : (l : List Float) (a e : ℕ) → a ≤ e → 2 * e ≤ length l → length (take (2 * e - 2 * a) (drop (2 * a) l)) % 2 ≡ 0
part_even l a e h k =
    let n : length (take (2 * e - 2 * a) (drop (2 * a) l)) ≡ 2 * (e - a) = length-take-le (2 * e - 2 * a) (drop (2 * a) l) (omega (arith, length-drop (2 * a) l)) ∙ omega arith in
    omega arith

module _ (p : P) (ends : List ℕ) (l : List Float) where
  pub rings_next : (z : ℤ) (a k : ℕ) → k < length ends
      → z +ℤ winding (cut a (drop k ends) (points l)) p ≡ (z +ℤ ring p (points (take (2 * get_or ends k 0 - 2 * a) (drop (2 * a) l)))) +ℤ winding (cut (get_or ends k 0) (drop (k + 1) ends) (points l)) p
  unfolding winding
  rings_next z a k h = rw (cut_next a ends k l h) (sym (+ℤ_assoc z _ _))

  pub rings_end : (z : ℤ) (a k : ℕ) → length ends ≤ k → z +ℤ winding (cut a (drop k ends) (points l)) p ≡ z
  unfolding winding
  rings_end z a k h = rw (cut_none a ends k l h) (+ℤ_idr z)

  pub part_small : (a e : ℕ) → nat_abs (ring p (points (take (2 * e - 2 * a) (drop (2 * a) l)))) ≤ e - a
  part_small a e =
      let m = take (2 * e - 2 * a) (drop (2 * a) l) in
      omega (arith, ring_small p (points m), points_length m, length-take (2 * e - 2 * a) (drop (2 * a) l))

-- ---- the steps of a segment

module _ (rs : List (List P)) (rule : FillRule) (a b : P) (n i : ℕ) where
  steps_next : i < n → steps_inside rs rule a b n i (n - i) ≡ (point_inside rs rule (along a b n i) && steps_inside rs rule a b n (i + 1) (n - (i + 1)))
  unfolding steps_inside
  steps_next h = let e : n - i ≡ suc (n - (i + 1)) = omega arith in rw e

  -- from what the calls of a turn answer: the step's end p, and whether it is inside
  pub steps_on : {p : P} {r : Bool} → i < n → p ≡ along a b n i → r ≡ point_inside rs rule p → r ≡ true → steps_inside rs rule a b n i (n - i) ≡ steps_inside rs rule a b n (i + 1) (n - (i + 1))
  steps_on h e q t = rw (sym (rw e at q) ∙ t) at (steps_next h)

  pub steps_out : {p : P} {r : Bool} → i < n → p ≡ along a b n i → r ≡ point_inside rs rule p → r ≡ false → steps_inside rs rule a b n i (n - i) ≡ false
  steps_out h e q t = rw (sym (rw e at q) ∙ t) at (steps_next h)

  pub steps_end : n ≤ i → steps_inside rs rule a b n i (n - i) ≡ true
  unfolding steps_inside
  steps_end h = let e : n - i ≡ 0 = omega arith in rw e
