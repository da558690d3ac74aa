-- Matched points on both rails: the rails in step, the places along them, the pairs. Definitions only.
-- A place, and a sync point, is a length along rail a (its x) and a length along rail b (its y).
use Rattle.std.specs.Prelude.{ℕ, zero, suc, Bool, ◌&&◌, ◌||◌, cond, List, [], ◌∷◌, ◌++◌, map, ltb, pos, length, Float}
use Rattle.std.specs.Float.Ieee.{lt}
use Rattle.numbers.specs.Num.{◌⊕◌, ◌⊖◌, ◌⊗◌, ◌⊘◌, real, half, zero64}
use Rattle.geom.specs.declared.point.P.{P}
use Rattle.geom.specs.Point.{point, tiny}
use Rattle.geom.specs.Steps.{steps}
use Rattle.polyline.specs.Line.{polyline_length, shortest}
use Rattle.satinrules.specs.declared.Pair.{Pair}
use Rattle.satinrules.specs.Arc.{rail_at}

pub record Rails : Type 0 where
  pub a : List P
  pub b : List P
  pub sync : List P

-- ---- the rails in step

abbrev pub origin : P
origin = point zero64 zero64

-- the place where both rails end
unfoldable pub ends_of : Rails → P
ends_of r = point (polyline_length r.a) (polyline_length r.b)

-- strictly beyond p on both rails, and strictly below both lengths
unfoldable pub grows : P → P → P → Bool
grows ends p q = lt p.x q.x && (lt p.y q.y && (lt q.x ends.x && lt q.y ends.y))

-- the sync points that are kept after p, and then the ends
unfoldable pub kept : P → P → List P → List P
kept ends p [] = ends ∷ []
kept ends p (q ∷ qs) = cond (grows ends p q) (q ∷ kept ends q qs) (kept ends p qs)

-- ---- the column's centre

-- the centre length of the window from p to q
unfoldable pub centre : P → P → Float
centre p q = ((q.x ⊖ p.x) ⊕ (q.y ⊖ p.y)) ⊗ half

-- those of the windows from p on, added to sum. There is always one and none is -0, so it is no matter from which zero the sum starts
unfoldable pub centres_from : Float → P → List P → Float
centres_from sum p [] = sum
centres_from sum p (q ∷ qs) = centres_from (sum ⊕ centre p q) q qs

unfoldable pub total_of : P → List P → Float
total_of ends sync = centres_from zero64 origin (kept ends origin sync)

-- the n of `pairs`
unfoldable pub count_of : P → List P → Float → ℕ
count_of ends sync step = steps (total_of ends sync) step

-- ---- the places

-- the place at s in the window from p to q
unfoldable pub place_at : P → P → Float → P
place_at p q s =
    let t = cond (lt tiny (centre p q)) (s ⊘ centre p q) zero64 in
    point (p.x ⊕ t ⊗ (q.x ⊖ p.x)) (p.y ⊕ t ⊗ (q.y ⊖ p.y))

module _ (step : Float) where
  -- a window's places from s on, m at most, and then what `on` gives from where they end
  unfoldable pub in_window : P → P → (Float → ℕ → List P) → Float → ℕ → List P
  in_window p q on s zero = on (s ⊖ centre p q) zero
  in_window p q on s (suc m) = cond (lt s (centre p q ⊖ shortest)) (place_at p q s ∷ in_window p q on (s ⊕ step) m) (on (s ⊖ centre p q) (suc m))

  -- the windows from p on
  unfoldable pub windows : P → List P → Float → ℕ → List P
  windows p [] s m = []
  windows p (q ∷ qs) s m = in_window p q (windows q qs) s m

-- n steps of equal length along the centre, and the ends
unfoldable pub places : P → List P → Float → List P
places ends sync step =
    let n = count_of ends sync step in
    windows (total_of ends sync ⊘ real (pos n)) origin (kept ends origin sync) zero64 n ++ (ends ∷ [])

-- ---- the pairs

-- a rail of under 2 corners gives nothing
unfoldable pub few : Rails → Bool
few r = ltb (length r.a) 2 || ltb (length r.b) 2

unfoldable pub pair_at : Rails → P → Pair
pair_at r q = record { a = rail_at r.a q.x; b = rail_at r.b q.y }

unfoldable pub pairs : Rails → Float → List Pair
pairs r step = cond (few r) [] (map (pair_at r) (places (ends_of r) r.sync step))
