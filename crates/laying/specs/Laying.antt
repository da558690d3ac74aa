-- What laying a fill's pieces in slices of their own asks and leaves. The table is lent to be read, and is said once, as it stands. Definitions only.
use Rattle.std.specs.Prelude.{ℕ, ◌*◌, ◌≤◌, Bool, cond, List, length, Float}
use Rattle.seqs.specs.Lists.{Strict}
use Rattle.edges.specs.declared.rows.Rows.{Rows}
use Rattle.edges.specs.Table.{edges_in}
use Rattle.edges.specs.Span.{Spanned}
use Rattle.sweep.specs.declared.key.Key.TheVariants.{Top, Bottom}
use Rattle.sweep.specs.Swept.{by}
pub use Rattle.sweep.specs.Laying.{Written as Laid}

-- what the whole is lent: room for the places twice, and an order of the edges
pub record Lent (table : List Float) (places : List ℕ) (e : ℕ) (upward : Bool) (w : Rows) : Type 0 where
  pub built : 5 * e ≤ length table
  pub room : 2 * e ≤ length places
  pub edges : e ≤ 1024
  pub rows : Spanned w
  pub strict : Strict (by (cond upward Bottom Top) (edges_in e table))
