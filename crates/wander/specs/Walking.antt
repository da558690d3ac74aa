-- What the code of the walks goes by: a walk in a slice of n grid points, and what a step leaves. Definitions only.
use Rattle.std.specs.Prelude.{ℕ, ◌+◌, ◌*◌, ◌≤◌, ◌<◌, ◌≡◌, Bool, true, cond, List, [], ◌∷◌, ltb, length, take, drop}
use Rattle.seqs.specs.Lists.{All}
use Rattle.geom.specs.Outline.{cut, rising}
use Rattle.meander_rules.specs.declared.Lattice.{Lattice}
use Rattle.meander_rules.specs.Meander.{Walk, Walks, most_points, turns}
use Rattle.meander_rules.specs.FreeLaws.{ones}
use Rattle.meander_rules.specs.TurnLaws.{left}
use Rattle.wander.specs.declared.Round.{Round}
use Rattle.wander.specs.declared.Steps.{Steps}

-- a mark: 1 where a point is inside
abbrev pub mark_of : Bool → ℕ
mark_of inside = cond inside 1 0

-- the walk that a slice holds: free points, the stack, and the points of all paths
abbrev pub walk_in : ℕ → List ℕ → Steps → Walk
walk_in n w s = record { free = take n w; stack = drop s.top (take (2 * n) w); path = drop (2 * n) (take (2 * n + s.size) w); seed = s.seed }

-- a slice with room for the walks, and steps that stand in it
pub record Sized (n : ℕ) (w : List ℕ) (s : Steps) : Type 0 where
  pub few : n ≤ most_points
  pub room : 8 * n ≤ length w
  pub top : s.top ≤ 2 * n
  pub size : s.size ≤ 2 * n

-- a step leaves the walk x in the slice, and nothing changed behind the paths
pub record Stepped (n : ℕ) (w w' : List ℕ) (r : Steps) (x : Walk) : Type 0 where
  pub is : walk_in n w' r ≡ x
  pub top : r.top ≤ 2 * n
  pub size : r.size ≤ 2 * n
  pub kept : drop (4 * n) w' ≡ drop (4 * n) w
  pub long : length w' ≡ length w

-- the way that is taken, if it leads to a point of the grid
abbrev pub found : ℕ → ℕ → List ℕ
found n k = cond (ltb k n) (k ∷ []) []

-- how far a walk can be: each free point takes a place of the stack and two of the paths, each on the stack one of the paths
pub record Sound (n : ℕ) (x : Walk) : Type 0 where
  pub size : length x.free ≡ n
  pub stack : length x.stack + ones x.free ≤ n
  pub path : length x.path + 2 * ones x.free + length x.stack ≤ 2 * n
  pub low : All (λ k. k < n) x.stack

-- a walk in a slice, ready for a turn
pub record Ready (n : ℕ) (w : List ℕ) (s : Steps) : Type 0 where
  pub sized : Sized n w s
  pub sound : Sound n (walk_in n w s)

-- the walk at its end: as many turns as it has left
abbrev pub finish : Lattice → (ℕ → ℕ → Bool) → Walk → Walk
finish g link x = turns g link (left g link x) x

-- ---- all walks

-- the walks that a slice holds: the paths one behind the other, cut where each ends
abbrev pub walks_in : ℕ → List ℕ → Round → Walks
walks_in n w t = record { paths = cut 0 (take t.walks (drop (4 * n) w)) (drop (2 * n) w); free = take n w; seed = t.seed }

-- a slice ready for the next walk
pub record Between (n : ℕ) (w : List ℕ) (t : Round) : Type 0 where
  pub few : n ≤ most_points
  pub room : 8 * n ≤ length w
  pub path : t.size + 2 * ones (take n w) ≤ 2 * n
  pub ends : t.walks + ones (take n w) ≤ n
  pub rise : rising 0 (take t.walks (drop (4 * n) w)) t.size ≡ true
