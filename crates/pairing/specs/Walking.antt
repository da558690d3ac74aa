-- A walk along the windows of a flat list of sync points: what is still to come from where it stands. Definitions only.
use Rattle.std.specs.Prelude.{ℕ, Bool, ◌&&◌, cond, List, [], ltb, drop, Float}
use Rattle.std.specs.Float.Ieee.{lt}
use Rattle.numbers.specs.Num.{◌⊖◌}
use Rattle.geom.specs.declared.point.P.{P}
use Rattle.geom.specs.Outline.{points}
use Rattle.polyline.specs.Line.{shortest}
use Rattle.satinrules.specs.Pairs.{kept, centre, in_window, windows}

-- where the walk stands: s into the window between two sync points, with at most `left` places to come; `to` is the last sync point, or the next stands at `next`
pub record Walk : Type 0 where
  pub from : P
  pub to : P
  pub last : Bool
  pub next : ℕ
  pub s : Float
  pub left : ℕ

-- the sync points that are kept after q, from place i of the flat list on; none after the ends
unfoldable pub rest_of : P → List Float → Bool → P → ℕ → List P
rest_of ends sync last q i = cond last [] (kept ends q (points (drop i sync)))

-- the windows after the one that the walk stands in
abbrev pub later_of : P → List Float → Walk → List P
later_of ends sync k = rest_of ends sync k.last k.to k.next

-- the places that are still to come
unfoldable pub left_of : Float → P → List Float → Walk → List P
left_of step ends sync k = in_window step k.from k.to (windows step k.to (later_of ends sync k)) k.s k.left

-- whether there is another place in the window
unfoldable pub goes_on : Walk → Bool
goes_on k = lt k.s (centre k.from k.to ⊖ shortest) && ltb 0 k.left

-- the walk at s in its window, with at most m places to come
abbrev pub walk_at : Walk → Float → ℕ → Walk
walk_at k s m = record { from = k.from; to = k.to; last = k.last; next = k.next; s = s; left = m }
