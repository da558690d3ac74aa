-- The running lengths of both rails, and the working slice of pairs: what stands in them. Definitions only.
use Rattle.std.specs.Prelude.{ℕ, ◌+◌, ◌/◌, ◌%◌, ◌≤◌, ◌≡◌, true, cond, List, [], ◌∷◌, map, leb, length, take, drop, Float}
use Rattle.seqs.specs.Slices.{put}
use Rattle.geom.specs.declared.point.P.{P}
use Rattle.geom.specs.Outline.{points}
use Rattle.geom.specs.Sewing.{flat}
use Rattle.limits.specs.Limits.{good_numbers}
use Rattle.polyline.specs.Line.{polyline_length}
use Rattle.satinrules.specs.Arc.{lengths}
use Rattle.satinrules.specs.declared.Pair.{Pair}
use Rattle.satinrules.specs.Pairs.{pair_at}
use Rattle.satinrules.specs.Calls.{rails_of, both_points}
use Rattle.arc.specs.Rail.{Railed}

-- the running lengths of both rails, one after the other, stand at the front
pub record Laid (a b rails : List Float) : Type 0 where
  pub room : length a / 2 + length b / 2 ≤ length rails
  pub on_a : take (length a / 2) rails ≡ lengths (points a)
  pub on_b : take (length b / 2) (drop (length a / 2) rails) ≡ lengths (points b)
  pub rail_a : Railed a (lengths (points a))
  pub rail_b : Railed b (lengths (points b))

-- both rails end there
pub record Ended (a b : List Float) (ends : P) : Type 0 where
  pub at_a : ends.x ≡ polyline_length (points a)
  pub at_b : ends.y ≡ polyline_length (points b)

-- rails that were accepted, of 2 corners or more
pub record Sound (a b : List Float) : Type 0 where
  pub even_a : length a % 2 ≡ 0
  pub even_b : length b % 2 ≡ 0
  pub some_a : 2 ≤ length a
  pub some_b : 2 ≤ length b
  pub few_a : length a / 2 ≤ 1024
  pub few_b : length b / 2 ≤ 1024
  pub good_a : good_numbers a ≡ true
  pub good_b : good_numbers b ≡ true

-- the pairs at these places, four numbers each
abbrev pub stored_pairs : List Float → List Float → List Float → List P → List Float
stored_pairs a b sync ps = flat (both_points (map (pair_at (rails_of a b sync)) ps))

-- both points of a pair from `to` on, where there is room for them
abbrev pub put_within : List Float → ℕ → Pair → List Float
put_within w to q = cond (leb (to + 4) (length w)) (put w to (flat (q.a ∷ q.b ∷ []))) w
