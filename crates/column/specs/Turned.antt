-- Two points of a list exchanged. Definitions only.
use Rattle.std.specs.Prelude.{ℕ, List, set, get_or}
use Rattle.std.specs.Float.{nan}
use Rattle.geom.specs.declared.point.P.{P}
use Rattle.geom.specs.Point.{point}

-- the points at i and j exchanged
unfoldable pub swapped : ℕ → ℕ → List P → List P
swapped i j ps = set (set ps i (get_or ps j (point nan nan))) j (get_or ps i (point nan nan))
