-- The sides of an outline that cross a height: what they add to the winding number of a point there, and which they are. Definitions only.
use Rattle.std.specs.Prelude.{ℕ, ◌-◌, ◌≤◌, ◌≡◌, cond, List, [], ◌∷◌, ◌++◌, ltb, length, take, get_or, ℤ, pos, ◌+ℤ◌, Float}
use Rattle.std.specs.Float.Ieee.{le}
use Rattle.numbers.specs.Num.{zero64}
use Rattle.geom.specs.declared.point.P.{P}
use Rattle.geom.specs.Point.{point}
use Rattle.outlines.specs.Winding.{edge, winding}

-- what sides add to the winding number of p, four numbers to a side
unfoldable pub side_sum : P → List Float → ℤ
side_sum p [] = pos 0
side_sum p (ax ∷ []) = pos 0
side_sum p (ax ∷ ay ∷ []) = pos 0
side_sum p (ax ∷ ay ∷ bx ∷ []) = pos 0
side_sum p (ax ∷ ay ∷ bx ∷ by ∷ rest) = edge (point ax ay) (point bx by) p +ℤ side_sum p rest

-- the side from a to b
abbrev pub side : P → P → List Float
side a b = a.x ∷ a.y ∷ b.x ∷ b.y ∷ []

-- the same, if just one of its ends has at most this y
unfoldable pub across : Float → P → P → List Float
across y a b = cond (le a.y y) (cond (le b.y y) [] (side a b)) (cond (le b.y y) (side a b) [])

-- those of the sides from a to the next corner, and so on
unfoldable pub chain_sides : Float → P → List P → List Float
chain_sides y a [] = []
chain_sides y a (b ∷ rest) = across y a b ++ chain_sides y b rest

-- a ring of under three corners has none
unfoldable pub ring_sides : Float → List P → List Float
ring_sides y l = cond (ltb (length l) 3) [] (chain_sides y (get_or l (length l - 1) (point zero64 zero64)) l)

unfoldable pub sides : Float → List (List P) → List Float
sides y [] = []
sides y (l ∷ ls) = ring_sides y l ++ sides y ls

-- the first n numbers of s, if it has so many, are sides that tell the winding number of every point at y
abbrev pub Gathered : List (List P) → Float → ℕ → List Float → Type 0
Gathered rs y n s = n ≤ length s → (x : Float) → side_sum (point x y) (take n s) ≡ winding rs (point x y)
