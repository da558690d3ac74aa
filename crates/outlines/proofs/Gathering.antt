-- The turns of the loops that gather the sides across a height, and of the one that sums them. Assumes nothing.
use Prim.Native.Nat.{ℕ, ◌+◌, ◌-◌, ◌*◌, ◌%◌, ◌≤◌, ◌<◌}
use native.Mathlib.Omega.{arith}
use mathlib.Core.Path.{◌≡◌, sym, ap, ◌∙◌}
use mathlib.Core.List.{List, [], ◌∷◌, ◌++◌}
use lib.ListN.{length, take, drop, get_or, length-drop}
use lib.Seq.{take_at}
use lib.IntN.{ℤ, ◌+ℤ◌, +ℤ_assoc, +ℤ_idr}
use lib.Ieee.{Float, nan}
use borrow.Author.Tests.{le-ltb, lt-ltb}
use Rattle.seqs.specs.Reads.{next2}
use Rattle.seqs.specs.Slices.{Wrote}
use Rattle.seqs.specs.Wrote.{Run, run_at, run_step, run_end}
use Rattle.geom.specs.declared.point.P.{P}
use Rattle.geom.specs.Point.{point}
use Rattle.geom.specs.Outline.{points, cut}
use Rattle.geom.specs.OutlineLaws.{corner_at, points_length, points_last, cut_next, cut_none}
use Rattle.outlines.specs.Winding.{edge}
use Rattle.outlines.specs.Sides.{side_sum, across, chain_sides, ring_sides, sides, Gathered}
use Rattle.outlines.specs.SidesLaws.{sides_sum}

-- ---- the sum

module _ (p : P) (s : List Float) (z : ℤ) (i : ℕ) where
  pub sum_next : i + 3 < length s → z +ℤ side_sum p (drop i s) ≡ (z +ℤ edge (corner_at s i) (corner_at s (i + 2)) p) +ℤ side_sum p (drop (i + 4) s)
  unfolding side_sum
  sum_next h =
      let e : i + 2 + 2 ≡ i + 4 = omega arith in
      rw (next2 s i nan (omega arith), next2 s (i + 2) nan (omega arith), e) (sym (+ℤ_assoc z (edge (corner_at s i) (corner_at s (i + 2)) p) (side_sum p (drop (i + 4) s))))

  pub sum_end : length s ≤ i + 3 → z +ℤ side_sum p (drop i s) ≡ z
  unfolding side_sum
  sum_end h = go (drop i s) (omega (arith, length-drop i s))
    where
      go : (m : List Float) → length m ≤ 3 → z +ℤ side_sum p m ≡ z
      go [] q = +ℤ_idr z
      go (a ∷ []) q = +ℤ_idr z
      go (a ∷ b ∷ []) q = +ℤ_idr z
      go (a ∷ b ∷ c ∷ []) q = +ℤ_idr z
      go (a ∷ b ∷ c ∷ d ∷ m) q = absurd (omega arith)

-- ---- the sides of a ring

module _ (y : Float) (l : List Float) where
  pub ring_none : length l < 6 → ring_sides y (points l) ≡ []
  unfolding ring_sides
  ring_none h = rw (lt-ltb (length (points l)) 3 (omega (arith, points_length l)))

  -- the side from the last corner comes first
  pub ring_begins : length l % 2 ≡ 0 → 5 < length l → ring_sides y (points l) ≡ chain_sides y (corner_at l (length l - 2)) (points l)
  unfolding ring_sides
  ring_begins even h = rw (le-ltb (length (points l)) 3 (omega (arith, points_length l)), points_last l _ even (omega arith))

-- from what the calls of a turn answer: corner b, and where its side ends
pub chain_turn : (y : Float) (a b : P) (rest : List P) {d₀ d d' whole : List Float} {k at r : ℕ} → Run d₀ d k at (chain_sides y a (b ∷ rest)) whole → Wrote d d' at (across y a b) → r ≡ at + length (across y a b) → Run d₀ d' k r (chain_sides y b rest) whole
unfolding chain_sides
chain_turn y a b rest f w q = rw q (run_step (across y a b) (chain_sides y b rest) f w)

-- ---- the sides of the rings

module _ (y : Float) (ends : List ℕ) (l : List Float) (a k : ℕ) where
  sides_next : k < length ends
      → sides y (cut a (drop k ends) (points l)) ≡ ring_sides y (points (take (2 * get_or ends k 0 - 2 * a) (drop (2 * a) l))) ++ sides y (cut (get_or ends k 0) (drop (k + 1) ends) (points l))
  unfolding sides
  sides_next h = rw (cut_next a ends k l h)

  pub rings_turn : {d₀ d d' whole : List Float} {at r : ℕ} → k < length ends → Run d₀ d 0 at (sides y (cut a (drop k ends) (points l))) whole
      → Wrote d d' at (ring_sides y (points (take (2 * get_or ends k 0 - 2 * a) (drop (2 * a) l)))) → r ≡ at + length (ring_sides y (points (take (2 * get_or ends k 0 - 2 * a) (drop (2 * a) l))))
      → Run d₀ d' 0 r (sides y (cut (get_or ends k 0) (drop (k + 1) ends) (points l))) whole
  rings_turn h f w q = rw q (run_step (ring_sides y (points (take (2 * get_or ends k 0 - 2 * a) (drop (2 * a) l)))) (sides y (cut (get_or ends k 0) (drop (k + 1) ends) (points l))) (run_at (sides_next h) f) w)

  pub rings_ended : {d₀ d whole : List Float} {at : ℕ} → length ends ≤ k → Run d₀ d 0 at (sides y (cut a (drop k ends) (points l))) whole → Run d₀ d 0 at [] whole
  unfolding sides
  rings_ended h f = rw (cut_none a ends k l h) at f

-- all of them, if there was room
pub gathered : (rs : List (List P)) (y : Float) {d₀ d : List Float} {n : ℕ} → Run d₀ d 0 n [] (sides y rs) → Gathered rs y n d
gathered rs y {d₀} {d} {n} f h x =
    let q : length (sides y rs) ≡ n = omega (arith, f.count) in
    let e = (run_end f).is (omega (arith, f.size)) in
    ap (λ (l : List Float). side_sum (point x y) (take n l)) e ∙ ap (side_sum (point x y)) (take_at (sides y rs) (drop (0 + length (sides y rs)) d₀) n q) ∙ sides_sum (point x y) rs
