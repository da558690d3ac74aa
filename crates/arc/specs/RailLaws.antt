-- What is proved of rails: the turns of a loop over running lengths, their count, the partition point. Assumes nothing.
use Rattle.std.specs.Prelude.{ℕ, zero, suc, ◌+◌, ◌≤◌, ◌<◌, ◌≡◌, refl, true, false, List, [], ◌∷◌, length, drop, get_or, Float}
use Rattle.std.proofs.Common.{arith, add-one, ap, drop_of_length-le}
use Rattle.std.proofs.Math.Seq.{drop-cons}
use Rattle.std.specs.Float.Ieee.{nan, lt, le}
use Rattle.numbers.specs.Num.{◌⊕◌, zero64}
use Rattle.geom.specs.declared.point.P.{P}
use Rattle.geom.specs.Point.{dist}
use Rattle.geom.specs.Outline.{points}
use Rattle.geom.specs.OutlineLaws.{corner_at, points_next, points_end}
use Rattle.satinrules.specs.Arc.{lengths_from, lengths, partition_point}
use Rattle.arc.specs.Rail.{later_lengths, not_beyond}

-- ---- running lengths from corner i on

module _ (pts : List Float) where
  pub lengths_next : (s : Float) (p : P) (i : ℕ) → i + 1 < length pts → lengths_from s p (points (drop i pts)) ≡ (s ⊕ dist p (corner_at pts i)) ∷ lengths_from (s ⊕ dist p (corner_at pts i)) (corner_at pts i) (points (drop (i + 2) pts))
  unfolding lengths_from
  lengths_next s p i h = rw (points_next pts i h)

  pub lengths_end : (s : Float) (p : P) (i : ℕ) → length pts ≤ i + 1 → lengths_from s p (points (drop i pts)) ≡ []
  unfolding lengths_from
  lengths_end s p i h = rw (points_end pts i h)

  pub lengths_start : 2 ≤ length pts → lengths (points pts) ≡ zero64 ∷ later_lengths pts
  unfolding lengths
  lengths_start h = rw (points_next pts 0 (omega arith))

  pub lengths_none : length pts < 2 → lengths (points pts) ≡ []
  unfolding lengths
  lengths_none h = rw (points_end pts 0 (omega arith))

-- ---- how many running lengths there are

later_count : (s : Float) (p : P) (ps : List P) → length (lengths_from s p ps) ≡ length ps
unfolding lengths_from
later_count s p [] = refl
later_count s p (q ∷ ps) = ap suc (later_count (s ⊕ dist p q) q ps)

-- one for each corner
pub lengths_count : (ps : List P) → length (lengths ps) ≡ length ps
unfolding lengths
lengths_count [] = refl
lengths_count (p ∷ ps) = ap suc (later_count zero64 p ps)

-- ---- the partition point

pub partition_at : (s : Float) (l : List Float) (k : ℕ) → k ≤ length l → ((i : ℕ) → i < k → le (get_or l i nan) s ≡ true) → (k < length l → le (get_or l k nan) s ≡ false) → partition_point s l ≡ k
unfolding partition_point
partition_at s [] zero h f g = refl
partition_at s [] (suc k) h f g = absurd (omega arith)
partition_at s (c ∷ l) zero h f g = rw (g (omega arith))
partition_at s (c ∷ l) (suc k) h f g = rw (f 0 (omega arith), partition_at s l k (omega arith) (λ i q. f (suc i) (omega arith)) (λ q. g (omega arith)))

-- ---- the first from i on that lies beyond s

module _ (s : Float) (l : List Float) (i : ℕ) where
  pub beyond_here : i < length l → lt s (get_or l i nan) ≡ true → not_beyond s (drop i l) ≡ 0
  unfolding not_beyond
  beyond_here h e = rw (drop-cons l i nan h, e)

  pub beyond_next : i < length l → lt s (get_or l i nan) ≡ false → not_beyond s (drop i l) ≡ suc (not_beyond s (drop (i + 1) l))
  unfolding not_beyond
  beyond_next h e = rw (add-one, drop-cons l i nan h, e)

  pub beyond_end : length l ≤ i → not_beyond s (drop i l) ≡ 0
  unfolding not_beyond
  beyond_end h = rw (drop_of_length-le l h)
