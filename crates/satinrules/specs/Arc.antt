-- A rail by its running lengths, and the point at a length along it, as satin.rs's `Arc` finds it. Definitions only.
use Rattle.std.specs.Prelude.{ℕ, suc, ◌-◌, cond, List, [], ◌∷◌, ltb, eqb, length, get_or, Float}
use Rattle.std.specs.Float.{nan}
use Rattle.std.specs.Float.Ieee.{lt, le}
use Rattle.numbers.specs.Num.{◌⊕◌, ◌⊖◌, ◌⊘◌, zero64}
use Rattle.geom.specs.declared.point.P.{P}
use Rattle.geom.specs.Point.{point, dist, lerp, tiny}

-- ---- running lengths

-- those of the corners after p, which stands at s
unfoldable pub lengths_from : Float → P → List P → List Float
lengths_from s p [] = []
lengths_from s p (q ∷ ps) = (s ⊕ dist p q) ∷ lengths_from (s ⊕ dist p q) q ps

unfoldable pub lengths : List P → List Float
lengths [] = []
lengths (p ∷ ps) = zero64 ∷ lengths_from zero64 p ps

-- the rail's length is the last of them
abbrev pub last : List Float → Float
last cum = get_or cum (length cum - 1) nan

-- ---- the point at s

unfoldable pub clamp : Float → Float → Float → Float
clamp s lo hi = cond (lt s lo) lo (cond (lt hi s) hi s)

-- how many at the front are at most s: the partition point
unfoldable pub partition_point : Float → List Float → ℕ
partition_point s [] = 0
partition_point s (c ∷ cum) = cond (le c s) (suc (partition_point s cum)) 0

-- k, but at least 1 and at most n - 1: the side to look at ends at this corner
unfoldable pub side_end : ℕ → ℕ → ℕ
side_end k n = cond (ltb k 1) 1 (cond (ltb (n - 1) k) (n - 1) k)

-- how far s is on the way from c to d: 0 where they are no more than 1e-12 apart
unfoldable pub fraction : Float → Float → Float → Float
fraction c d s = cond (lt tiny (d ⊖ c)) ((s ⊖ c) ⊘ (d ⊖ c)) zero64

abbrev pub corner_of : List P → ℕ → P
corner_of ps i = get_or ps i (point nan nan)

-- the point at s on the side that ends at corner i
unfoldable pub on_side : List P → List Float → Float → ℕ → P
on_side ps cum s i = lerp (corner_of ps (i - 1)) (corner_of ps i) (fraction (get_or cum (i - 1) nan) (get_or cum i nan) s)

unfoldable pub at : List P → List Float → Float → P
at ps cum s =
    let t = clamp s zero64 (last cum) in
    cond (eqb (length cum) 1) (corner_of ps 0) (on_side ps cum t (side_end (partition_point t cum) (length cum)))

-- the point at s along a rail
unfoldable pub rail_at : List P → Float → P
rail_at ps s = at ps (lengths ps) s
