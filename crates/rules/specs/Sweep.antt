-- The sweep down the outline, as fill.rs goes and as the code goes. Definitions only.
use Rattle.std.specs.Prelude.{List, [], ◌∷◌, ◌++◌, ℕ, T, ℤ, Float, length}
use Rattle.std.specs.Float.Ieee.{le}
use mathlib.Core.List.{Permᴰ}
use Rattle.numbers.specs.Order.{before}
use Rattle.seqs.specs.Lists.{sift, take_while, drop_while, sort_by, by_key, upto, Sorted}
use Rattle.outlines.specs.declared.rule.FillRule.{FillRule}
use Rattle.rules.specs.declared.Settings.{Settings}
use Rattle.rules.specs.declared.Edge.{Edge}
use Rattle.rules.specs.declared.Piece.{Piece}
use Rattle.rules.specs.Fill.{edge, row_at, starts, lives, by_x, pieces_at}

-- the places of all edges, in order of y0; where y0 is equal in any order, as an unstable sort leaves them
pub record InOrder (es : List Edge) (waiting : List ℕ) : Type 0 where
  pub all : Permᴰ waiting (upto 0 (length es))
  pub rising : Sorted (λ i j. T (le (edge es i).y0 (edge es j).y0)) waiting

-- the source's: those that wait are pushed while they have started, of the active ones those are retained that go on, and a copy is sorted
unfoldable pub swept : FillRule → Settings → List Edge → List ℕ → List ℕ → List ℤ → List (List Piece)
swept rule g es active waiting [] = []
swept rule g es active waiting (k ∷ ks) =
    let y = row_at g k in
    let now = sift (lives es y) (active ++ take_while (starts es y) waiting) in
    pieces_at rule g es k (sort_by (by_x es y) now) ∷ swept rule g es now (drop_while (starts es y) waiting) ks

-- the code's: the active places stand in the last row's order, and `order` puts them into this row's
unfoldable pub swept_by : (Float → List ℕ → List ℕ) → FillRule → Settings → List Edge → List ℕ → List ℕ → List ℤ → List (List Piece)
swept_by order rule g es active waiting [] = []
swept_by order rule g es active waiting (k ∷ ks) =
    let y = row_at g k in
    let now = order y (sift (lives es y) active ++ sift (lives es y) (take_while (starts es y) waiting)) in
    pieces_at rule g es k now ∷ swept_by order rule g es now (drop_while (starts es y) waiting) ks

-- one such order: by y0 in total order, and where it is equal by place
unfoldable pub by_start : List Edge → List ℕ
by_start es = sort_by (by_key before (λ i. (edge es i).y0)) (upto 0 (length es))
