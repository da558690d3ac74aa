-- The winding number of a point over rings, as geom.rs works it out. Definitions only.
use Rattle.std.specs.Prelude.{◌-◌, ◌&&◌, cond, List, [], ◌∷◌, ltb, length, get_or, ℤ, pos, negsuc, ◌+ℤ◌}
use Rattle.std.specs.Float.Ieee.{lt, le}
use Rattle.numbers.specs.Num.{zero64}
use Rattle.geom.specs.declared.point.P.{P}
use Rattle.geom.specs.Point.{point, minus, cross}

-- what the edge from a to b adds to the winding number of p
unfoldable pub edge : P → P → P → ℤ
edge a b p =
    cond (le a.y p.y)
    (cond (lt p.y b.y && lt zero64 (cross (minus b a) (minus p a))) (pos 1) (pos 0))
    (cond (le b.y p.y && lt (cross (minus b a) (minus p a)) zero64) (negsuc 0) (pos 0))

-- what the edges from a to the next corner, and so on, add
unfoldable pub edges : P → P → List P → ℤ
edges p a [] = pos 0
edges p a (b ∷ rest) = edge a b p +ℤ edges p b rest

-- a ring of under three corners adds nothing; the first edge of another comes from its last corner
unfoldable pub ring : P → List P → ℤ
ring p l = cond (ltb (length l) 3) (pos 0) (edges p (get_or l (length l - 1) (point zero64 zero64)) l)

unfoldable pub winding : List (List P) → P → ℤ
winding [] p = pos 0
winding (l ∷ ls) p = ring p l +ℤ winding ls p
