-- The rows that a list of edges spans, and which row is met when. Definitions only.
use Rattle.std.specs.Prelude.{ℕ, ◌≤◌, Bool, true, false, cond, List, ℤ, pos, ◌+ℤ◌, ◌-ℤ◌, length}
use Rattle.std.specs.Float.{inf}
use Rattle.std.specs.Int.{w64}
use Rattle.std.proofs.Common.{SFits}
use Rattle.numbers.specs.Order.{smaller, larger}
use Rattle.seqs.specs.Slices.{capped}
use Rattle.rules.specs.declared.Settings.{Settings}
use Rattle.rules.specs.declared.Edge.{Edge}
use Rattle.rules.specs.Fill.{k_lo, k_hi, how_many, row_numbers}
use Rattle.edges.specs.declared.rows.Extent.{Extent}
use Rattle.edges.specs.declared.rows.Rows.{Rows}

-- top and bottom of no edges, and with one edge more
abbrev pub nowhere : Extent
nowhere = record { any = false; top = inf false; bottom = inf true }

abbrev pub widen : Edge → Extent → Extent
widen e x = record { any = true; top = smaller x.top e.y0; bottom = larger x.bottom e.y1 }

-- the rows of a list of edges, counted up to one past 4,096
unfoldable pub rows_of : Settings → List Edge → Rows
rows_of g es = record { lo = k_lo g es; hi = k_hi g es; n = capped 4096 (length (row_numbers g es)) }

-- the number of row r in the order met: last row first when bottom up
abbrev pub row_number : Rows → Bool → ℕ → ℤ
row_number w upward r = cond upward (w.hi -ℤ pos r) (w.lo +ℤ pos r)

-- what the rows of a fill that passed SIZE are
pub record Spanned (w : Rows) : Type 0 where
  pub low : SFits w64 w.lo
  pub high : SFits w64 w.hi
  pub all : w.n ≤ how_many w.lo w.hi
  pub few : w.n ≤ 4096
