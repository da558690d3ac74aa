-- What laying a fill's pieces in slices of their own asks and leaves. The table is only read: it is the list of its edges. Definitions only.
use Rattle.std.specs.Prelude.{ℕ, ◌*◌, ◌≤◌, ◌≡◌, Bool, cond, List, length, take, drop, replicate, Float}
use Rattle.seqs.specs.Lists.{each, drop_while, Strict}
use Rattle.seqs.specs.Slices.{Wrote}
use Rattle.seqs.specs.Records.{Added}
use Rattle.rules.specs.declared.Edge.{Edge}
use Rattle.rules.specs.declared.Piece.{Piece}
use Rattle.rules.specs.PieceTable.{piece_block, row_counts}
use Rattle.edges.specs.declared.rows.Rows.{Rows}
use Rattle.edges.specs.Span.{Spanned}
use Rattle.sweep.specs.declared.key.Key.TheVariants.{Top, Bottom}
use Rattle.sweep.specs.declared.piece.Cut.{Cut}
use Rattle.sweep.specs.declared.row.Done.{Done}
use Rattle.sweep.specs.Swept.{by, enters, places, cuts, span_block, block_place}

-- what a row is lent: a stripe of a place for each edge
pub record Row (es : List Edge) (l : List ℕ) (from : Done) : Type 0 where
  pub stripe : length l ≡ length es
  pub edges : length es ≤ 1024
  pub few : from.live.m ≤ from.live.next
  pub on : from.live.next ≤ length l
  pub pieces : from.i ≤ 5000000

-- row r: its places, and its pieces behind those that stand
pub record Rowed (upward : Bool) (c : Cut) (es : List Edge) (from : Done) (r : ℕ) (d d' : List Float) (a a' l l' : List ℕ) (s : Done) : Type 0 where
  pub size : length l' ≡ length l
  pub few : s.live.m ≤ s.live.next
  pub on : s.live.next ≤ length l
  pub active : take s.live.m l' ≡ places upward es c.y (take from.live.m l) (drop from.live.next l)
  pub waits : drop s.live.next l' ≡ drop_while (enters upward es c.y) (drop from.live.next l)
  pub pieces : Added block_place (span_block c.y) d d' from.i s.i (cuts c es (take s.live.m l'))
  pub rows : Wrote a a' from.i (replicate (length (cuts c es (take s.live.m l'))) r)

-- what the rows are lent
pub record Stripe (es : List Edge) (l : List ℕ) (w : Rows) : Type 0 where
  pub stripe : length l ≡ length es
  pub edges : length es ≤ 1024
  pub rows : Spanned w

-- what the whole is lent: room for the places twice, and an order of the edges
pub record Roomy (es : List Edge) (l : List ℕ) (upward : Bool) (w : Rows) : Type 0 where
  pub room : 2 * length es ≤ length l
  pub edges : length es ≤ 1024
  pub rows : Spanned w
  pub strict : Strict (by (cond upward Bottom Top) es)

-- what is left of the rows `rows`: their pieces, and for each piece its row's count
pub record Written (n : ℕ) (rows : List (List Piece)) (d d' : List Float) (a a' : List ℕ) : Type 0 where
  pub pieces : Added block_place piece_block d d' 0 n (each (λ r. r) rows)
  pub counts : Wrote a a' 0 (row_counts 0 rows)
