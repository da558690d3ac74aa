-- Request [9]'s promise, of the call's own grid, marks and links: every inside grid point that can be reached over allowed links from a walk's start is visited by that walk's end. Assumes nothing.
use Rattle.std.specs.Prelude.{ℕ, zero, suc, ◌+◌, ◌<◌, ◌≡◌, refl, Bool, true, false, eqb, get_or}
use native.Mathlib.Omega.{arith}
use Rattle.std.proofs.Common.{ap, ◌∙◌}
use mathlib.Core.List.{List, map}
use Rattle.seqs.specs.Lists.{upto}
use Rattle.geom.specs.declared.point.P.{P}
use Rattle.outlines.specs.declared.rule.FillRule.{FillRule}
use Rattle.meander_rules.specs.declared.Lattice.{Lattice}
use Rattle.meander_rules.specs.Meander.{points_of, inside_at, link_ok, first_seed, is_free, walk_from, walks_of, free_at_first}
use Rattle.meander_rules.specs.Reach.{Visited, Reached, before}
use Rattle.meander_rules.specs.ReachLaws.{reached_visited, all_visited}
use Rattle.wander.specs.Walking.{mark_of}
use Rattle.wander.specs.MarkLaws.{marks_length}

marks_at : (f : ℕ → ℕ) (i n k : ℕ) → k < n → get_or (map f (upto i n)) k 0 ≡ f (i + k)
marks_at f i zero k h = absurd (omega arith)
marks_at f i (suc n) zero h = let e : i ≡ i + 0 = omega arith in ap f e
marks_at f i (suc n) (suc k) h = let e : i + 1 + k ≡ i + suc k = omega arith in marks_at f (i + 1) n k (omega arith) ∙ ap f e

marked : (b : Bool) → eqb (mark_of b) 1 ≡ b
marked true = refl
marked false = refl

module _ (rings : List (List P)) (rule : FillRule) (g : Lattice) (seed : ℕ) where
  -- the marks at first say which points are inside
  pub inside_is : (k : ℕ) → k < points_of g → is_free (free_at_first rings rule g) k ≡ inside_at rings rule g k
  unfolding is_free free_at_first
  inside_is k h = let e : 0 + k ≡ k = omega arith in rw (marks_at (λ i. mark_of (inside_at rings rule g i)) 0 (points_of g) k h, e) (marked (inside_at rings rule g k))

  -- for each walk: what it can reach from its start is visited by its end
  pub visits : (start : ℕ) → is_free (before g (link_ok rings rule g) (free_at_first rings rule g) (first_seed seed) start).free start ≡ true
      → {n : ℕ} → Reached g (link_ok rings rule g) (free_at_first rings rule g) start n
      → Visited (walk_from g (link_ok rings rule g) start (before g (link_ok rings rule g) (free_at_first rings rule g) (first_seed seed) start).free (before g (link_ok rings rule g) (free_at_first rings rule g) (first_seed seed) start).seed).free n
  visits start t r = (reached_visited g (link_ok rings rule g) (free_at_first rings rule g) (omega (arith, marks_length rings rule g)) (first_seed seed) start t r).1

  -- and by the end of all walks every point is visited
  pub visits_all : (k : ℕ) → k < points_of g → Visited (walks_of g (link_ok rings rule g) (free_at_first rings rule g) (first_seed seed)).free k
  visits_all k h = all_visited g (link_ok rings rule g) (free_at_first rings rule g) (first_seed seed) k h
