-- The marks of the grid's points, one after the other. Assumes nothing.
use Rattle.std.specs.Prelude.{ℕ, ◌+◌, ◌-◌, ◌≤◌, ◌<◌, ◌≡◌, refl, List, [], ◌∷◌, map, length}
use native.Mathlib.Omega.{arith}
use Rattle.std.proofs.Common.{◌∙◌}
use Rattle.seqs.specs.Lists.{upto}
use Rattle.seqs.specs.Upto.{upto_next, upto_length}
use Rattle.seqs.specs.Reads.{fuel_none}
use Rattle.seqs.specs.Front.{Front, front_start}
use Rattle.geom.specs.declared.point.P.{P}
use Rattle.outlines.specs.declared.rule.FillRule.{FillRule}
use Rattle.meander_rules.specs.declared.Lattice.{Lattice}
use Rattle.meander_rules.specs.Meander.{points_of, inside_at, free_at_first}
use Rattle.wander.specs.Walking.{mark_of}

module _ (rings : List (List P)) (rule : FillRule) (g : Lattice) where
  -- the marks of the points from k on
  abbrev pub marks_from : ℕ → List ℕ
  marks_from k = map (λ i. mark_of (inside_at rings rule g i)) (upto k (points_of g - k))

  pub marks_all : (w : List ℕ) → Front w w 0 (marks_from 0) (free_at_first rings rule g)
  unfolding free_at_first
  marks_all w = let e : points_of g - 0 ≡ points_of g = omega arith in rw e (front_start w (map (λ i. mark_of (inside_at rings rule g i)) (upto 0 (points_of g))))

  pub marks_next : (k : ℕ) → k < points_of g → marks_from k ≡ mark_of (inside_at rings rule g k) ∷ marks_from (k + 1)
  marks_next k h = rw (upto_next (points_of g) k h)

  pub marks_end : (k : ℕ) → points_of g ≤ k → marks_from k ≡ []
  marks_end k h = rw (fuel_none (points_of g) k h)

  map_length : (f : ℕ → ℕ) (l : List ℕ) → length (map f l) ≡ length l
  map_length f [] = refl
  map_length f (a ∷ l) = let ih = map_length f l in omega (arith, ih)

  pub marks_length : length (free_at_first rings rule g) ≡ points_of g
  unfolding free_at_first
  marks_length = map_length (λ i. mark_of (inside_at rings rule g i)) (upto 0 (points_of g)) ∙ upto_length 0 (points_of g)
