-- What finding a point along a rail asks of its running lengths. Definitions only.
use Rattle.std.specs.Prelude.{ℕ, suc, ◌*◌, ◌≤◌, ◌<◌, ◌≡◌, true, cond, List, [], ◌∷◌, length, drop, get_or, Float}
use Rattle.std.specs.Float.{nan}
use Rattle.std.specs.Float.Ieee.{lt, le}
use Rattle.numbers.specs.Num.{zero64}
use Rattle.geom.specs.Outline.{points}
use Rattle.geom.specs.OutlineLaws.{corner_at}
use Rattle.satinrules.specs.Arc.{lengths_from}

-- before one that is at most s, all are
pub record Rising (cum : List Float) : Type 0 where
  pub rises : (i j : ℕ) (s : Float) → i ≤ j → j < length cum → le (get_or cum j nan) s ≡ true → le (get_or cum i nan) s ≡ true

-- one running length for each corner of a flat rail
pub record Railed (pts cum : List Float) : Type 0 where
  pub some : 1 ≤ length cum
  pub twice : length pts ≡ 2 * length cum
  pub rising : Rising cum

-- the running lengths of a flat rail's corners after the first
abbrev pub later_lengths : List Float → List Float
later_lengths pts = lengths_from zero64 (corner_at pts 0) (points (drop 2 pts))

-- how many at the front do not lie beyond s
unfoldable pub not_beyond : Float → List Float → ℕ
not_beyond s [] = 0
not_beyond s (c ∷ cum) = cond (lt s c) 0 (suc (not_beyond s cum))
