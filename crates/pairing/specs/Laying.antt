-- A stretch of laying, from place to place of a window. Definitions only.
use Rattle.std.specs.Prelude.{ℕ, ◌+◌, ◌*◌, ◌≤◌, ◌≡◌, List, [], ◌∷◌, ◌++◌, length, Float}
use Rattle.seqs.specs.Front.{Front}
use Rattle.geom.specs.declared.point.P.{P}
use Rattle.pairing.specs.Walking.{Walk, left_of, walk_at}
use Rattle.pairing.specs.Store.{stored_pairs}

-- where laying stands: the walk, the place in the working slice, and the corners at which the sides end that the last pair was found on
pub record Laying : Type 0 where
  pub walk : Walk
  pub to : ℕ
  pub a : ℕ
  pub b : ℕ

-- laying has gone on in its window from l to r, and the slice from w to w': where the pairs of the whole have room, those before `to` stand at the front
pub record Stretch (a b : List Float) (step : Float) (w w' : List Float) (l r : Laying) : Type 0 where
  pub walk : r.walk ≡ walk_at l.walk r.walk.s r.walk.left
  pub taken : r.to + 4 * r.walk.left ≡ l.to + 4 * l.walk.left
  pub size : length w' ≡ length w
  pub count : (ends : P) (sync : List Float) → r.to + 4 * length (left_of step ends sync r.walk) ≡ l.to + 4 * length (left_of step ends sync l.walk)
  pub laid : (ends : P) (sync d : List Float) (whole : List P) → 4 * length whole ≤ length d
      → Front d w l.to (stored_pairs a b sync (left_of step ends sync l.walk ++ (ends ∷ []))) (stored_pairs a b sync whole)
      → Front d w' r.to (stored_pairs a b sync (left_of step ends sync r.walk ++ (ends ∷ []))) (stored_pairs a b sync whole)
