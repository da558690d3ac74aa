-- What sewing both halves asks for, and the answer of the call once the rails are accepted. Definitions only.
use Rattle.std.specs.Prelude.{ℕ, ◌*◌, ◌≤◌, ◌≡◌, true, List, take, drop, Float}
use Rattle.geom.specs.declared.point.P.{P}
use Rattle.geom.specs.Sewing.{flat}
use Rattle.satinrules.specs.declared.Satin.{Satin}
use Rattle.satinrules.specs.Settings.{zigzag_underlay_spacing}
use Rattle.satinrules.specs.Pairs.{pairs}
use Rattle.satinrules.specs.Column.{bit, spacing_of, stitches, column}
use Rattle.satinrules.specs.Calls.{rails_of, pass_steps, passed}
use Rattle.satin.specs.Underlay.{Fit, runs}
use Rattle.column.specs.declared.sized.Passes.{Passes}
use Rattle.satin.specs.declared.underlay.Under.{Under}

-- the underlay's passes that are sewn are those of the settings, few enough, and a working slice of so many numbers has room for each
pub record UnderReady (a b sync : List Float) (g : Satin) (ends : P) (u : Under) (work : ℕ) : Type 0 where
  pub run : runs g ≡ true → Fit a b sync g.run_len ends u.run u.n
  pub zigzag : bit g 4 ≡ true → Fit a b sync zigzag_underlay_spacing ends u.zigzag u.m
  pub small_n : u.n ≤ 65537
  pub small_m : u.m ≤ 65537
  pub room_n : 8 * u.n ≤ work
  pub room_m : 8 * u.m ≤ work

-- and so is the top's
pub record Ready (a b sync : List Float) (g : Satin) (ends : P) (p : Passes) (work : ℕ) : Type 0 where
  pub under : UnderReady a b sync g ends p.under work
  pub top : Fit a b sync (spacing_of g) ends p.top p.t
  pub small_t : p.t ≤ 65537
  pub room_t : 8 * p.t ≤ work

-- the top's stitches, and where they stand in the working slice
abbrev pub top_path : List Float → List Float → List Float → Satin → List Float
top_path a b sync g = flat (stitches g (pairs (rails_of a b sync) (spacing_of g)))

abbrev pub path_in : Passes → List Float → List Float
path_in p w = take (4 * p.t) (drop (4 * p.t) w)

unfoldable pub column_passed : List Float → List Float → List Float → Satin → ℕ → ℕ → ℕ
column_passed a b sync g work room = passed (rails_of a b sync) (pass_steps g) (column (rails_of a b sync) g) work room
