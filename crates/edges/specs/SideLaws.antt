-- The turns of a loop over a ring's sides, and over the rings. Assumes nothing.
use Rattle.std.specs.Prelude.{ℕ, ◌+◌, ◌-◌, ◌*◌, ◌≤◌, ◌<◌, ◌≡◌, Bool, cond, length, take, drop, get_or, Float}
use Rattle.std.proofs.Common.{arith}
use Rattle.std.proofs.Math.Path.{refl}
use Rattle.std.proofs.Math.Bool.{true, false}
use mathlib.Core.List.{List, [], ◌∷◌, ◌++◌}
use Rattle.std.proofs.Math.Dec.{ltb}
use borrow.Author.Tests.{ltb-true, ltb-false}
use Rattle.seqs.specs.Lists.{each}
use Rattle.geom.specs.declared.point.P.{P}
use Rattle.geom.specs.Outline.{points, cut, rings}
use Rattle.geom.specs.OutlineLaws.{points_next, points_end, cut_next, cut_none}
use Rattle.rules.specs.declared.Settings.{Settings}
use Rattle.rules.specs.declared.Edge.{Edge}
use Rattle.rules.specs.Fill.{kept_side, sides_to, sides, turned, edges}
use Rattle.edges.specs.Kept.{KeptSide, found}
use Rattle.edges.specs.Kept.KeptSide.{Kept, Dropped}
use Rattle.edges.specs.Table.{corner, following, ring_edges}

pub found_few : (s : KeptSide) → length (found s) ≤ 1
found_few (Kept e) = omega arith
found_few Dropped = omega arith

pub following_in : (i n : ℕ) → i + 1 < n → following i n + 1 < n
following_in i n h = go (ltb (i + 3) n) refl
  where
    go : (b : Bool) → ltb (i + 3) n ≡ b → cond b (i + 2) 0 + 1 < n
    go true e = omega (arith, ltb-true (i + 3) n e)
    go false e = omega arith

module _ (g : Settings) where
  -- the edges of the sides from a coordinate on, the last side back to the corner z
  unfoldable pub left : P → List Float → List Edge
  left z l = each kept_side (sides_to z (turned g (points l)))

  pub left_none : (z : P) (l : List Float) (i : ℕ) → length l ≤ i + 1 → left z (drop i l) ≡ []
  unfolding left sides_to turned
  left_none z l i h = rw (points_end l i h)

  pub left_next_lem : (l : List Float) (i : ℕ) → i + 1 < length l
      → left (corner g l 0) (drop i l) ≡ kept_side (corner g l i, corner g l (following i (length l))) ++ left (corner g l 0) (drop (i + 2) l)
  unfolding left sides_to turned
  left_next_lem l i h = go (ltb (i + 3) (length l)) refl
    where
      go : (b : Bool) → ltb (i + 3) (length l) ≡ b → left (corner g l 0) (drop i l) ≡ kept_side (corner g l i, corner g l (cond b (i + 2) 0)) ++ left (corner g l 0) (drop (i + 2) l)
      go true e = rw (points_next l i h, points_next l (i + 2) (omega (arith, ltb-true (i + 3) (length l) e)))
      go false e = rw (points_next l i h, points_end l (i + 2) (omega (arith, ltb-false (i + 3) (length l) e)))

  pub ring_short : (l : List Float) → length l < 6 → ring_edges g (points l) ≡ []
  unfolding ring_edges points sides turned
  ring_short [] h = refl
  ring_short (x ∷ []) h = refl
  ring_short (x ∷ y ∷ []) h = refl
  ring_short (x ∷ y ∷ x1 ∷ []) h = refl
  ring_short (x ∷ y ∷ x1 ∷ y1 ∷ []) h = refl
  ring_short (x ∷ y ∷ x1 ∷ y1 ∷ x2 ∷ []) h = refl
  ring_short (x ∷ y ∷ x1 ∷ y1 ∷ x2 ∷ y2 ∷ l) h = absurd (omega arith)

  pub ring_long : (l : List Float) → 6 ≤ length l → ring_edges g (points l) ≡ left (corner g l 0) l
  unfolding ring_edges points sides turned left
  ring_long [] h = absurd (omega arith)
  ring_long (x ∷ []) h = absurd (omega arith)
  ring_long (x ∷ y ∷ []) h = absurd (omega arith)
  ring_long (x ∷ y ∷ x1 ∷ []) h = absurd (omega arith)
  ring_long (x ∷ y ∷ x1 ∷ y1 ∷ []) h = absurd (omega arith)
  ring_long (x ∷ y ∷ x1 ∷ y1 ∷ x2 ∷ []) h = absurd (omega arith)
  ring_long (x ∷ y ∷ x1 ∷ y1 ∷ x2 ∷ y2 ∷ l) h = refl

  -- the edges of the rings that are left, the first of which begins at corner a
  unfoldable pub rest : ℕ → List ℕ → List Float → List Edge
  rest a ends corners = each (ring_edges g) (cut a ends (points corners))

  pub rest_all : (corners : List Float) (ends : List ℕ) → edges g (rings corners ends) ≡ rest 0 ends corners
  unfolding edges rings rest ring_edges
  rest_all corners ends = refl

  module _ (a : ℕ) (ends : List ℕ) (k : ℕ) (l : List Float) where
    pub rest_next : k < length ends
        → rest a (drop k ends) l ≡ ring_edges g (points (take (2 * get_or ends k 0 - 2 * a) (drop (2 * a) l))) ++ rest (get_or ends k 0) (drop (k + 1) ends) l
    unfolding rest
    rest_next h = rw (cut_next a ends k l h)

    pub rest_none : length ends ≤ k → rest a (drop k ends) l ≡ []
    unfolding rest
    rest_none h = rw (cut_none a ends k l h)
