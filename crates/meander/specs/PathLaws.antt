-- The paths that a slice holds, lent as they stand; and the marks in its front. Assumes nothing.
use Rattle.std.specs.Prelude.{ℕ, ◌+◌, ◌-◌, ◌*◌, ◌≤◌, ◌≡◌, refl, true, leb, length, take, drop, Float}
use Rattle.std.proofs.Common.{arith, ◌∙◌, length-append, length-take-le, take_at, take-take, leb-true}
use Rattle.std.proofs.Math.Path.{ap}
use mathlib.Core.List.{List, [], ◌∷◌, ◌++◌}
use Rattle.std.proofs.Math.ListN.{length-drop}
use Rattle.seqs.specs.Lists.{each}
use Rattle.seqs.specs.Reads.{part_on}
use Rattle.seqs.specs.Tests.{and_both}
use Rattle.geom.specs.declared.point.P.{P}
use Rattle.geom.specs.Outline.{cut, rising}
use Rattle.outlines.specs.declared.rule.FillRule.{FillRule}
use Rattle.meander_rules.specs.declared.Lattice.{Lattice}
use Rattle.meander_rules.specs.Meander.{Walks, points_of, link_ok, first_seed, walks_of, free_at_first, paths_of, lines_along, meander_on}
use Rattle.wander.specs.declared.Round.{Round}
use Rattle.wander.specs.Walking.{walks_in, Between}
use Rattle.wander.specs.MarkLaws.{marks_length}
use Rattle.wander.specs.RoundLaws.{rising_le}
use Rattle.trail.specs.Trail.{trails}

-- what is cut ends at the last end
cut_take : (a : ℕ) (es : List ℕ) (n : ℕ) (l : List ℕ) → rising a es n ≡ true → n ≤ length l → cut a es (take n l) ≡ cut a es l
unfolding rising cut
cut_take a [] n l h k = refl
cut_take a (b ∷ es) n l h k =
    let p = and_both (leb a b) (rising b es n) h in
    let f : take (b - a) (drop a (take n l)) ≡ take (b - a) (drop a l) = part_on (take n l) l a (b - a) n (omega (arith, leb-true a b p.0, rising_le b es n p.1)) (take-take n n l (omega arith)) in
    rw (f, cut_take b es n l p.1 k)

module _ (g : Lattice) (w : List ℕ) (t : Round) (b : Between (points_of g) w t) where
  abbrev n : ℕ
  n = points_of g

  size_room : 2 * n + t.size ≤ length w
  size_room = omega (arith, b.room, b.path)

  paths_part : 2 * n + t.size - 2 * n ≡ t.size
  paths_part = omega arith

  breaks_part : 4 * n + t.walks - 4 * n ≡ t.walks
  breaks_part = omega arith

  pub rise_part : rising 0 (take (4 * points_of g + t.walks - 4 * points_of g) (drop (4 * points_of g) w)) (length (take (2 * points_of g + t.size - 2 * points_of g) (drop (2 * points_of g) w))) ≡ true
  rise_part = rw (breaks_part, paths_part, length-take-le t.size (drop (2 * n) w) (omega (arith, length-drop (2 * n) w, size_room))) b.rise

  pub trails_are : (rings : List (List P)) (rule : FillRule) (len : Float)
      → trails (take (2 * points_of g + t.size - 2 * points_of g) (drop (2 * points_of g) w)) (take (4 * points_of g + t.walks - 4 * points_of g) (drop (4 * points_of g) w)) rings rule g len
      ≡ each (lines_along rings rule g len) (walks_in (points_of g) w t).paths
  unfolding trails
  trails_are rings rule len = rw (breaks_part, paths_part, cut_take 0 (take t.walks (drop (4 * n) w)) t.size (drop (2 * n) w) b.rise (omega (arith, length-drop (2 * n) w, size_room)))

module _ (rings : List (List P)) (rule : FillRule) (g : Lattice) (w : List ℕ) (room : points_of g ≤ length w) {w₁ : List ℕ} (m : w₁ ≡ free_at_first rings rule g ++ drop (length (free_at_first rings rule g)) w) where
  pub marked_front : take (points_of g) w₁ ≡ free_at_first rings rule g
  marked_front = ap (take (points_of g)) m ∙ take_at (free_at_first rings rule g) (drop (length (free_at_first rings rule g)) w) (points_of g) (marks_length rings rule g)

  pub marked_length : length w₁ ≡ length w
  marked_length =
      let l = marks_length rings rule g in
      ap length m ∙ length-append (free_at_first rings rule g) (drop (length (free_at_first rings rule g)) w) ∙ omega (arith, l, length-drop (length (free_at_first rings rule g)) w)

  pub lines_walked : (len : Float) (seed : ℕ) (x : Walks) → x ≡ walks_of g (link_ok rings rule g) (take (points_of g) w₁) (first_seed seed) → each (lines_along rings rule g len) x.paths ≡ meander_on rings rule g len seed
  unfolding meander_on paths_of
  lines_walked len seed x e = ap (λ (y : Walks). each (lines_along rings rule g len) y.paths) (e ∙ ap (λ (f : List ℕ). walks_of g (link_ok rings rule g) f (first_seed seed)) marked_front)
