-- A way cut in equal steps, as geom.rs cuts it. Definitions only.
use Rattle.std.specs.Prelude.{ℕ, pos, Float}
use Rattle.std.specs.Float.Ieee.{to_unsigned}
use Rattle.numbers.specs.Num.{◌⊘◌, real}
use Rattle.numbers.specs.Whole.{ceil}
use Rattle.numbers.specs.Order.{larger}
use Rattle.geom.specs.declared.point.P.{P}
use Rattle.geom.specs.Point.{one, lerp}

-- how many steps of at most len a length d takes: one or more
unfoldable pub steps : Float → Float → ℕ
steps d len = to_unsigned 64 (larger (ceil (d ⊘ len)) one)

-- where step i of n ends on the way from a to b
unfoldable pub along : P → P → ℕ → ℕ → P
along a b n i = lerp a b (real (pos i) ⊘ real (pos n))
