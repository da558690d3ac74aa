-- Runs of edges: what the code of the winding number works out on the way. Definitions only.
use Rattle.std.specs.Prelude.{ℕ, ◌+◌, Bool, ◌||◌, cond, List, [], ◌∷◌, eqb, length, ℤ, pos, Float}
use Rattle.std.specs.Float.Ieee.{le}
use Rattle.geom.specs.declared.point.P.{P}
use Rattle.outlines.specs.Winding.{edges}

-- the edges between the corners of a list
unfoldable pub chain : P → List P → ℤ
chain p [] = pos 0
chain p (a ∷ rest) = edges p a rest

-- how many corners have at most this y
unfoldable pub lows : Float → List P → ℕ
lows y [] = 0
lows y (a ∷ rest) = cond (le a.y y) 1 0 + lows y rest

-- all of them or none
unfoldable pub one_side : Float → List P → Bool
one_side y l = eqb (lows y l) 0 || eqb (lows y l) (length l)
