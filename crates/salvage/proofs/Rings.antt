-- What the stages leave of a ring's marks, and a turn of each loop over rings. Assumes nothing.
use Prim.Native.Nat.{ℕ, ◌+◌, ◌-◌, ◌*◌, ◌≤◌, ◌<◌}
use native.Mathlib.Omega.{arith}
use mathlib.Core.Path.{◌≡◌, sym, ap, ◌∙◌}
use mathlib.Core.Bool.{true, false}
use mathlib.Core.List.{List, [], ◌∷◌, ◌++◌, map, append_assoc}
use lib.ListN.{length, take, drop, get_or, set}
use lib.Seq.{drop-drop}
use lib.Ieee.{Float, nan}
use borrow.Author.Tests.{le-leb, lt-leb}
use Rattle.seqs.specs.Lists.{each}
use Rattle.seqs.specs.Front.{Front, next, none, block_front}
use Rattle.geom.specs.declared.point.P.{P}
use Rattle.geom.specs.Point.{point}
use Rattle.geom.specs.Outline.{points, cut}
use Rattle.geom.specs.OutlineLaws.{corner_at, points_length, points_at, cut_next, cut_none}
use Rattle.std.specs.Prelude.{None}
use Rattle.salvage.specs.Ring.{CLOSING, left, same, strays, closes, closed, few, cleared, ring_marks}
use Rattle.salvage.specs.RingLaws.{count, first_kept, last_kept, left_count, mark_last_set, first_less, last_less, closes_at, closes_not, strays_length, closed_length}
use Rattle.salvage.specs.OutlineLaws.{counted_ends}

-- ---- a ring

module _ (cs : List Float) (ms : List ℕ) (h : length cs ≡ 2 * length ms) where
  marked : length ms ≡ length (points cs)
  marked = omega (arith, points_length cs)

  pub closing_none : count ms < 2 → ms ≡ closed (points cs) ms
  unfolding closed
  closing_none k = rw (closes_not (left ms (points cs)) (omega (arith, left_count ms (points cs) marked)))

  module _ (k : 2 ≤ count ms) where
    pub first_in : 2 * first_kept ms + 1 < length cs
    first_in = omega (arith, first_less ms (omega arith))

    pub last_in : 2 * last_kept 0 0 ms + 1 < length cs
    last_in = omega (arith, last_less ms (omega arith))

    is_closed : closes (left ms (points cs)) ≡ same (corner_at cs (2 * first_kept ms)) (corner_at cs (2 * last_kept 0 0 ms))
    is_closed = let z = point nan nan in closes_at z ms (points cs) marked k ∙ rw (points_at cs (first_kept ms) z first_in, points_at cs (last_kept 0 0 ms) z last_in)

    pub closing_equal : same (corner_at cs (2 * first_kept ms)) (corner_at cs (2 * last_kept 0 0 ms)) ≡ true → set ms (last_kept 0 0 ms) CLOSING ≡ closed (points cs) ms
    unfolding closed
    closing_equal e = rw (is_closed ∙ e) (sym (mark_last_set ms (omega arith)))

    pub closing_other : same (corner_at cs (2 * first_kept ms)) (corner_at cs (2 * last_kept 0 0 ms)) ≡ false → ms ≡ closed (points cs) ms
    unfolding closed
    closing_other e = rw (is_closed ∙ e)

module _ (ps : List P) (a b : List ℕ) (e : a ≡ strays None ps) (f : b ≡ closed ps a) where
  left_two : length (left b ps) ≡ count b
  left_two = left_count b ps (ap length f ∙ closed_length ps a ∙ ap length e ∙ strays_length None ps)

  both : cleared ps b ≡ ring_marks ps
  unfolding ring_marks
  both = rw (f, e)

  few_cleared : count b < 3 → map few b ≡ cleared ps b
  unfolding cleared
  few_cleared k = rw (lt-leb 3 (length (left b ps)) (omega (arith, left_two)))

  kept_cleared : 3 ≤ count b → b ≡ cleared ps b
  unfolding cleared
  kept_cleared k = rw (le-leb 3 (length (left b ps)) (omega (arith, left_two)))

  pub ring_few : (d : List ℕ) → d ≡ map few b → count b < 3 → d ≡ ring_marks ps
  ring_few d g k = g ∙ few_cleared k ∙ both

  pub ring_enough : 3 ≤ count b → b ≡ ring_marks ps
  ring_enough k = kept_cleared k ∙ both

-- ---- rings

-- a part of the slice is lent, and left as m
pub part_front : {A : Type 0} {d₀ d whole : List A} (m rest y : List A) (a e : ℕ) → Front d₀ d a (m ++ rest) whole → y ≡ m → length m ≡ e - a → a ≤ e → e ≤ length d
    → Front d₀ (take a d ++ (y ++ drop (e - a) (drop a d))) e rest whole
part_front {d = d} m rest y a e f q h lo hi =
    let n : a + length m ≡ e = omega arith in
    let s : a + (e - a) ≡ e = omega arith in
    rw (q, drop-drop (e - a) a d, s) (rw (n, append_assoc) at (block_front m rest f (omega arith)))

module _ (a : ℕ) (ends : List ℕ) (k : ℕ) where
  pub rings_turn : (cs : List Float) → k < length ends
      → each ring_marks (cut a (drop k ends) (points cs)) ≡ ring_marks (points (take (2 * get_or ends k 0 - 2 * a) (drop (2 * a) cs))) ++ each ring_marks (cut (get_or ends k 0) (drop (k + 1) ends) (points cs))
  rings_turn cs h = rw (cut_next a ends k cs h)

  pub rings_end : (cs : List Float) → length ends ≤ k → each ring_marks (cut a (drop k ends) (points cs)) ≡ []
  rings_end cs h = rw (cut_none a ends k cs h)

  module _ (ms : List ℕ) (n : ℕ) where
    pub ends_turn : k < length ends
        → counted_ends n (cut a (drop k ends) ms) ≡ (n + count (take (get_or ends k 0 - a) (drop a ms))) ∷ counted_ends (n + count (take (get_or ends k 0 - a) (drop a ms))) (cut (get_or ends k 0) (drop (k + 1) ends) ms)
    unfolding cut counted_ends
    ends_turn h = rw (next ends k 0 h)

    pub ends_end : length ends ≤ k → counted_ends n (cut a (drop k ends) ms) ≡ []
    unfolding cut counted_ends
    ends_end h = rw (none ends k h)
