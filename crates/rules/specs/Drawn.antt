-- A row's crossings edge by edge: what the theorems of proofs/Drawn speak of.
use Rattle.std.specs.Prelude.{Bool, ◌&&◌, ℤ, Float}
use mathlib.Core.List.{List, map}
use Rattle.std.specs.Float.Ieee.{lt, le}
use Rattle.numbers.specs.Num.{◌⊕◌, ◌⊖◌, ◌⊗◌}
use Rattle.seqs.specs.Lists.{sift}
use Rattle.rules.specs.declared.Edge.{Edge}
use Rattle.rules.specs.Fill.{dir}

-- ---- a row's crossings, by edge

abbrev pub crosses : Float → Edge → Bool
crosses y e = le e.y0 y && lt y e.y1

abbrev pub cross_at : Float → Edge → Float × ℤ
cross_at y e = (e.x0 ⊕ (y ⊖ e.y0) ⊗ e.dxdy, dir e)

-- as the edges come
abbrev pub unsorted : Float → List Edge → List (Float × ℤ)
unsorted y es = map (cross_at y) (sift (crosses y) es)
