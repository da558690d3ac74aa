-- The answers of the calls once the rails are accepted. Definitions only.
use Rattle.std.specs.Prelude.{ℕ, List, [], ◌∷◌, map, Float}
use Rattle.geom.specs.declared.point.P.{P}
use Rattle.satinrules.specs.declared.Pair.{Pair}
use Rattle.satinrules.specs.Pairs.{pair_at, pairs}
use Rattle.satinrules.specs.Calls.{rails_of, passed, both_points}

unfoldable pub pairs_passed : List Float → List Float → List Float → Float → ℕ → ℕ → ℕ
pairs_passed a b sync step work room = passed (rails_of a b sync) (step ∷ []) (both_points (pairs (rails_of a b sync) step)) work room

-- the pairs at these places
abbrev pub placed : List Float → List Float → List Float → List P → List Pair
placed a b sync ps = map (pair_at (rails_of a b sync)) ps
