-- Points in an output slice. Definitions only.
use Rattle.std.specs.Prelude.{ℕ, List, [], ◌∷◌, leb, length, Float}
use Rattle.refusal.specs.Refusal.{ROOM, unless}
use Rattle.geom.specs.declared.point.P.{P}

-- points as numbers, x before y
unfoldable pub flat : List P → List Float
flat [] = []
flat (p ∷ ps) = p.x ∷ p.y ∷ flat ps

-- ROOM, unless a slice of so many numbers has room for the points
unfoldable pub fitted : List P → ℕ → ℕ
fitted ps room = unless ROOM (leb (length (flat ps)) room)
