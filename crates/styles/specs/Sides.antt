-- Parts of a path whose sides are sewn, as the code writes them. Definitions only.
use Rattle.std.specs.Prelude.{ℕ, List, [], ◌∷◌, ◌++◌, drop, Float}
use Rattle.geom.specs.declared.point.P.{P}
use Rattle.geom.specs.Outline.{points}
use Rattle.geom.specs.OutlineLaws.{corner_at}
use Rattle.satinrules.specs.Column.{sides_from}

-- the points of side k from p to q, q among them
abbrev pub side_to : (ℕ → P → P → List P) → ℕ → P → P → List P
side_to f k p q = f k p q ++ (q ∷ [])

-- all after the first corner of a flat path
abbrev pub later_sides : (ℕ → P → P → List P) → List Float → List P
later_sides f line = sides_from f 0 (corner_at line 0) (points (drop 2 line))
