-- A point's operations, each rounded once, in the order of geom.rs. Definitions only.
use Rattle.std.specs.Prelude.{◌^◌, false, cond, pos, Float}
use Rattle.std.specs.Float.{fin}
use Rattle.std.specs.Float.Ieee.{lt, neg}
use Rattle.numbers.specs.Num.{◌⊕◌, ◌⊖◌, ◌⊗◌, ◌⊘◌, literal, zero64}
use Rattle.numbers.specs.Root.{root}
use Rattle.geom.specs.declared.point.P.{P}

abbrev pub point : Float → Float → P
point x y = record { x = x; y = y }

abbrev pub plus : P → P → P
plus a o = point (a.x ⊕ o.x) (a.y ⊕ o.y)

abbrev pub minus : P → P → P
minus a o = point (a.x ⊖ o.x) (a.y ⊖ o.y)

abbrev pub times : P → Float → P
times a s = point (a.x ⊗ s) (a.y ⊗ s)

abbrev pub dot : P → P → Float
dot a o = a.x ⊗ o.x ⊕ a.y ⊗ o.y

unfoldable pub len : P → Float
len a = root (a.x ⊗ a.x ⊕ a.y ⊗ a.y)

unfoldable pub dist : P → P → Float
dist a o = len (minus a o)

abbrev pub one : Float
one = fin false 1 (pos 0)

-- 1e-12
unfoldable pub tiny : Float
tiny = literal 1 (10 ^ 12)

unfoldable pub norm : P → P
norm a = let l = len a in cond (lt tiny l) (times a (one ⊘ l)) (point zero64 zero64)

abbrev pub perp : P → P
perp a = point (neg a.y) a.x

abbrev pub rotate : P → Float → Float → P
rotate a c s = point (a.x ⊗ c ⊖ a.y ⊗ s) (a.x ⊗ s ⊕ a.y ⊗ c)

unfoldable pub lerp : P → P → Float → P
lerp a o t = plus a (times (minus o a) t)

abbrev pub cross : P → P → Float
cross a b = a.x ⊗ b.y ⊖ a.y ⊗ b.x
