-- A turn of each loop over marks, and its end. Assumes nothing.
use Prim.Native.Nat.{ℕ, ◌+◌, ◌*◌, ◌≤◌, ◌<◌}
use native.Mathlib.Omega.{arith}
use mathlib.Core.Path.{◌≡◌, ap}
use mathlib.Core.Bool.{cond}
use mathlib.Core.List.{List, [], ◌∷◌, ◌++◌, map}
use lib.ListN.{length, drop, get_or}
use lib.Ieee.{Float}
use borrow.Author.Tests.{ne_eqb}
use Rattle.seqs.specs.Front.{next, none}
use Rattle.geom.specs.Outline.{points}
use Rattle.geom.specs.OutlineLaws.{corner_at, points_next}
use Rattle.salvage.specs.Ring.{left, few}
use Rattle.salvage.specs.Salvage.{dropped_places, dropped_reasons}
use Rattle.salvage.specs.RingLaws.{count, first_kept, last_kept}

module _ (ms : List ℕ) (i : ℕ) where
  module _ (h : i < length ms) where
    pub few_turn : map few (drop i ms) ≡ few (get_or ms i 0) ∷ map few (drop (i + 1) ms)
    few_turn = rw (next ms i 0 h)

    -- one that is kept
    module _ (e : get_or ms i 0 ≡ 0) where
      pub count_kept : count (drop i ms) ≡ 1 + count (drop (i + 1) ms)
      count_kept = rw (next ms i 0 h, e) (omega arith)

      pub first_found : first_kept (drop i ms) ≡ 0
      unfolding first_kept
      first_found = rw (next ms i 0 h, e)

      pub last_kept_lem : (l : ℕ) → last_kept i l (drop i ms) ≡ last_kept (i + 1) i (drop (i + 1) ms)
      unfolding last_kept
      last_kept_lem l = rw (next ms i 0 h, e)

      pub places_kept : dropped_places i (drop i ms) ≡ dropped_places (i + 1) (drop (i + 1) ms)
      unfolding dropped_places
      places_kept = rw (next ms i 0 h, e)

      pub reasons_kept : dropped_reasons (drop i ms) ≡ dropped_reasons (drop (i + 1) ms)
      unfolding dropped_reasons
      reasons_kept = rw (next ms i 0 h, e)

    -- one that is dropped
    module _ (n : get_or ms i 0 ≡ 0 → ⊥) where
      pub count_dropped : count (drop i ms) ≡ count (drop (i + 1) ms)
      count_dropped = rw (next ms i 0 h, ne_eqb (get_or ms i 0) 0 n)

      pub first_later : first_kept (drop i ms) ≡ 1 + first_kept (drop (i + 1) ms)
      unfolding first_kept
      first_later = rw (next ms i 0 h, ne_eqb (get_or ms i 0) 0 n) (omega arith)

      pub last_dropped : (l : ℕ) → last_kept i l (drop i ms) ≡ last_kept (i + 1) l (drop (i + 1) ms)
      unfolding last_kept
      last_dropped l = rw (next ms i 0 h) (ap (λ b. last_kept (i + 1) (cond b i l) (drop (i + 1) ms)) (ne_eqb (get_or ms i 0) 0 n))

      pub places_dropped : dropped_places i (drop i ms) ≡ i ∷ dropped_places (i + 1) (drop (i + 1) ms)
      unfolding dropped_places
      places_dropped = rw (next ms i 0 h, ne_eqb (get_or ms i 0) 0 n)

      pub reasons_dropped : dropped_reasons (drop i ms) ≡ get_or ms i 0 ∷ dropped_reasons (drop (i + 1) ms)
      unfolding dropped_reasons
      reasons_dropped = rw (next ms i 0 h, ne_eqb (get_or ms i 0) 0 n)

  -- none is left
  module _ (h : length ms ≤ i) where
    pub few_end : map few (drop i ms) ≡ []
    few_end = rw (none ms i h)

    pub count_end : count (drop i ms) ≡ 0
    count_end = rw (none ms i h)

    pub first_end : first_kept (drop i ms) ≡ 0
    unfolding first_kept
    first_end = rw (none ms i h)

    pub last_end : (l : ℕ) → last_kept i l (drop i ms) ≡ l
    unfolding last_kept
    last_end l = rw (none ms i h)

    pub places_end : dropped_places i (drop i ms) ≡ []
    unfolding dropped_places
    places_end = rw (none ms i h)

    pub reasons_end : dropped_reasons (drop i ms) ≡ []
    unfolding dropped_reasons
    reasons_end = rw (none ms i h)

-- marks and the corners beside them
module _ (cs : List Float) (i : ℕ) where
  module _ (h : 2 * i + 1 < length cs) where
    corners_next : points (drop (2 * i) cs) ≡ corner_at cs (2 * i) ∷ points (drop (2 * (i + 1)) cs)
    corners_next = let e : 2 * (i + 1) ≡ 2 * i + 2 = omega arith in rw e (points_next cs (2 * i) h)

    module _ (ms : List ℕ) (k : i < length ms) where
      pub left_kept : get_or ms i 0 ≡ 0 → left (drop i ms) (points (drop (2 * i) cs)) ≡ (corner_at cs (2 * i) ∷ []) ++ left (drop (i + 1) ms) (points (drop (2 * (i + 1)) cs))
      unfolding left
      left_kept e = rw (next ms i 0 k, corners_next, e)

      pub left_dropped : (get_or ms i 0 ≡ 0 → ⊥) → left (drop i ms) (points (drop (2 * i) cs)) ≡ left (drop (i + 1) ms) (points (drop (2 * (i + 1)) cs))
      unfolding left
      left_dropped n = rw (next ms i 0 k, corners_next, ne_eqb (get_or ms i 0) 0 n)

pub left_end : (cs : List Float) (ms : List ℕ) (i : ℕ) → length ms ≤ i → left (drop i ms) (points (drop (2 * i) cs)) ≡ []
unfolding left
left_end cs ms i h = rw (none ms i h)
