-- The flat form of lines and outlines: coordinates, x before y, and ring ends counted in corners. Definitions only.
use Rattle.std.specs.Prelude.{ℕ, ◌-◌, ◌/◌, ◌%◌, ◌≡◌, Bool, true, ◌&&◌, List, [], ◌∷◌, leb, eqb, length, take, drop, Float}
use Rattle.geom.specs.declared.point.P.{P}
use Rattle.geom.specs.Point.{point}

-- the points of a flat list; an odd last number is dropped
unfoldable pub points : List Float → List P
points [] = []
points (x ∷ []) = []
points (x ∷ y ∷ rest) = point x y ∷ points rest

-- a list cut at each end, the first part from a on
unfoldable pub cut : {A : Type 0} → ℕ → List ℕ → List A → List (List A)
cut a [] l = []
cut a (e ∷ es) l = take (e - a) (drop a l) ∷ cut e es l

-- the rings of flat corners: each runs from the end before it to its own
unfoldable pub rings : List Float → List ℕ → List (List P)
rings corners ends = cut 0 ends (points corners)

-- from a on the ends never fall, and the last is n; with no ends n is a
unfoldable pub rising : ℕ → List ℕ → ℕ → Bool
rising a [] n = eqb a n
rising a (e ∷ es) n = leb a e && rising e es n

-- what lending the rings as parts of the corner list asks for
pub record Layout (corners : List Float) (ends : List ℕ) : Type 0 where
  pub even : length corners % 2 ≡ 0
  pub rise : rising 0 ends (length corners / 2) ≡ true
