-- Rows in the slices whose pieces go to the right. Definitions only.
use Rattle.std.specs.Prelude.{ℕ, ◌+◌, ◌-◌, ◌*◌, List, map, get_or, Float}
use Rattle.std.specs.Float.{nan}
use Rattle.seqs.specs.Lists.{upto}
use Rattle.rules.specs.Rise.{Rise}
use Rattle.sections.specs.Mark.{piece_in}

-- the ends of the piece at place t
abbrev pub xa_at : List Float → ℕ → Float
xa_at l t = get_or l (3 * t + 1) nan

abbrev pub xb_at : List Float → ℕ → Float
xb_at l t = get_or l (3 * t + 2) nan

-- the pieces from place `from` on, before `to`
pub record Rising (l : List Float) (from to : ℕ) : Type 0 where
  pub up : Rise (map (piece_in l) (upto from (to - from)))
