-- What a pass of a column asks for. Definitions only.
use Rattle.std.specs.Prelude.{ℕ, ◌+◌, ◌*◌, ◌≤◌, ◌≡◌, Bool, false, not, ◌||◌, cond, List, [], ◌++◌, length, Float}
use Rattle.geom.specs.declared.point.P.{P}
use Rattle.geom.specs.Outline.{points}
use Rattle.limits.specs.Limits.{most_pairs}
use Rattle.satinrules.specs.declared.Pair.{Pair}
use Rattle.satinrules.specs.declared.Satin.{Satin}
use Rattle.satinrules.specs.Column.{turned_if, only_if, bit, after_centre}
use Rattle.satinrules.specs.Pairs.{few, ends_of}
use Rattle.satinrules.specs.Calls.{rails_of}
use Rattle.pairing.specs.declared.places.Pass.{Pass}
use Rattle.pairing.specs.Walk.{pass_of, walk_places}
use Rattle.passes.specs.declared.threads.Thread.{Thread}
use Rattle.passes.specs.declared.threads.Thread.TheVariants.{Middle, SideA, SideB}
use Rattle.passes.specs.Threads.{thread_of}

-- the pass of n places that `step` asks for, on rails of 2 corners or more, few enough
pub record Fit (a b sync : List Float) (step : Float) (ends : P) (pass : Pass) (n : ℕ) : Type 0 where
  pub some : few (rails_of a b sync) ≡ false
  pub end : ends ≡ ends_of (rails_of a b [])
  pub asked : pass ≡ pass_of ends (points sync) step
  pub small : pass.n ≤ most_pairs
  pub count : n ≡ length (walk_places ends (points sync) pass)

-- whether the pass by run_len is sewn: for the centre, for the contour, or for both
abbrev pub runs : Satin → Bool
runs g = bit g 1 || bit g 2

-- a pass over these pairs, where it is sewn
abbrev pub over_if : Bool → Thread → Bool → List Pair → List P
over_if sewn t back qs = only_if sewn (turned_if back (thread_of t qs))

-- the passes by run_len over these pairs: the centre, then the contour's two sides
unfoldable pub runs_over : Satin → List Pair → List P
runs_over g qs = over_if (bit g 1) Middle false qs ++ (over_if (bit g 2) SideA (after_centre g) qs ++ over_if (bit g 2) SideB (not (after_centre g)) qs)

-- how many points the underlay has, where its passes have n and m pairs
unfoldable pub underlay_count : Satin → ℕ → ℕ → ℕ
underlay_count g n m = cond (bit g 1) n 0 + cond (bit g 2) (2 * n) 0 + cond (bit g 4) m 0
