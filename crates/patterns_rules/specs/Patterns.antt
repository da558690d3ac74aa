-- Bounds, clipping and cross stitch, in the words of document 01 and the source's patterns.rs. Definitions only.
use Rattle.std.specs.Prelude.{ℕ, ◌+◌, Bool, true, false, ◌&&◌, cond, List, [], ◌∷◌, ◌++◌, map, reverse, eqb, ltb, length, ℤ, pos, nat_abs, ◌+ℤ◌, ◌-ℤ◌, Float}
use Rattle.std.specs.Int.Signed.{lt_z}
use Rattle.std.specs.Float.{inf}
use Rattle.std.specs.Float.Ieee.{to_signed}
use Rattle.numbers.specs.Num.{◌⊕◌, ◌⊗◌, ◌⊘◌, real, half}
use Rattle.numbers.specs.Order.{finite, smaller, larger}
use Rattle.numbers.specs.Whole.{floor, ceil}
use Rattle.seqs.specs.Lists.{upto, sift, each, fold}
use Rattle.geom.specs.declared.point.P.{P}
use Rattle.outlines.specs.declared.rule.FillRule.{FillRule}
use Rattle.geom.specs.Point.{point}
use Rattle.outlines.specs.Inside.{point_inside, segment_inside}
use Rattle.patterns_rules.specs.declared.Bounds.{Bounds}
use Rattle.patterns_rules.specs.declared.Grid.{Grid}
use Rattle.patterns_rules.specs.declared.Run.{Run}

-- ---- bounds

-- with no corners, plus infinity below and minus infinity above
abbrev pub nowhere : Bounds
nowhere = record { left = inf false; top = inf false; right = inf true; bottom = inf true }

-- with one corner more; of two zeros of unlike sign, smaller gives -0 and larger +0
abbrev pub widen : P → Bounds → Bounds
widen q b = record { left = smaller b.left q.x; top = smaller b.top q.y; right = larger b.right q.x; bottom = larger b.bottom q.y }

-- of the corners of all rings
unfoldable pub bounds : List (List P) → Bounds
bounds rings = fold widen nowhere (each (λ ring. ring) rings)

-- ---- clipping: the parts of a line that lie inside

-- a piece of the line is kept where both its ends are inside, and the points between them, one each 2.0
unfoldable pub piece_inside : List (List P) → FillRule → P → P → Bool
piece_inside rings rule a b = point_inside rings rule a && point_inside rings rule b && segment_inside rings rule a b (real (pos 2))

-- a run has at least two points
unfoldable pub closed : List P → List (List P)
closed cur = cond (ltb (length cur) 2) [] (cur ∷ [])

-- a run that is empty starts at p
unfoldable pub opened : P → List P → List P
opened p [] = p ∷ []
opened p (c ∷ cur) = c ∷ cur

-- the runs of the line from p on, where `cur` is the run so far
unfoldable pub runs_from : List (List P) → FillRule → List P → P → List P → List (List P)
runs_from rings rule cur p [] = closed cur
runs_from rings rule cur p (q ∷ line) =
    cond (piece_inside rings rule p q) (runs_from rings rule (opened p cur ++ (q ∷ [])) q line) (closed cur ++ runs_from rings rule [] q line)

unfoldable pub clip_inside : List P → List (List P) → FillRule → List (List P)
clip_inside [] rings rule = []
clip_inside (p ∷ line) rings rule = runs_from rings rule [] p line

-- ---- cross stitch

-- how many whole numbers from lo to hi, the upper end excluded
unfoldable pub up_to : ℤ → ℤ → ℕ
up_to lo hi = cond (lt_z lo hi) (nat_abs (hi -ℤ lo)) 0

-- cells run from floor to ceiling
unfoldable pub first_cell : Float → Float → ℤ
first_cell lo cell = to_signed 63 (floor (lo ⊘ cell))

unfoldable pub past_cell : Float → Float → ℤ
past_cell hi cell = to_signed 63 (ceil (hi ⊘ cell))

-- the cells within these bounds; with no corners there are none
unfoldable pub grid_in : Bounds → Float → Grid
grid_in b cell =
    let c = first_cell b.left cell in
    let r = first_cell b.top cell in
    let some = finite b.left in
    record { cell = cell; left = c; columns = cond some (up_to c (past_cell b.right cell)) 0; top = r; rows = cond some (up_to r (past_cell b.bottom cell)) 0 }

unfoldable pub grid_of : List (List P) → Float → Grid
grid_of rings cell = grid_in (bounds rings) cell

-- the left side of column i, and the upper side of row r, counted from the grid's first
unfoldable pub x_at : Grid → ℕ → Float
x_at g i = real (g.left +ℤ pos i) ⊗ g.cell

unfoldable pub y_at : Grid → ℕ → Float
y_at g r = real (g.top +ℤ pos r) ⊗ g.cell

-- whether the centre of cell i in the row at y is inside
unfoldable pub cell_inside : List (List P) → FillRule → Grid → Float → ℕ → Bool
cell_inside rings rule g y i = point_inside rings rule (point (x_at g i ⊕ g.cell ⊗ half) (y ⊕ g.cell ⊗ half))

-- runs of adjacent cells, with cell i before them
unfoldable pub joined : ℕ → List Run → List Run
joined i [] = record { first = i; many = 1 } ∷ []
joined i (r ∷ rs) = cond (eqb r.first (i + 1)) (record { first = i; many = r.many + 1 } ∷ rs) (record { first = i; many = 1 } ∷ r ∷ rs)

unfoldable pub runs : List ℕ → List Run
runs [] = []
runs (i ∷ cells) = joined i (runs cells)

-- out: bottom left to top right of cell i
unfoldable pub out_over : Grid → Float → ℕ → List P
out_over g y i = point (x_at g i) (y ⊕ g.cell) ∷ point (x_at g i ⊕ g.cell) y ∷ []

-- back: bottom right to top left
unfoldable pub back_over : Grid → Float → ℕ → List P
back_over g y i = point (x_at g i ⊕ g.cell) (y ⊕ g.cell) ∷ point (x_at g i) y ∷ []

-- a run shares one out-and-back row
unfoldable pub out_and_back : Grid → Float → Run → List P
out_and_back g y run = let cells = upto run.first run.many in each (out_over g y) cells ++ each (back_over g y) (reverse cells)

-- the runs of the row at y, and their rows of stitches
unfoldable pub row_runs : List (List P) → FillRule → Grid → Float → List Run
row_runs rings rule g y = runs (sift (cell_inside rings rule g y) (upto 0 g.columns))

unfoldable pub row_lines : List (List P) → FillRule → Grid → Float → List (List P)
row_lines rings rule g y = map (out_and_back g y) (row_runs rings rule g y)

-- one row of cells at a time
unfoldable pub stitched : List (List P) → FillRule → Grid → List (List P)
stitched rings rule g = each (λ r. row_lines rings rule g (y_at g r)) (upto 0 g.rows)

unfoldable pub cross_stitch : List (List P) → FillRule → Float → List (List P)
cross_stitch rings rule cell = stitched rings rule (grid_of rings cell)
