-- What the code of cross stitch goes by: the grid with its counts stopped past 4,096, the sides of a row, where a scan of a row's cells stops, and what a writer needs. Definitions only.
use Rattle.std.specs.Prelude.{ℕ, ◌+◌, ◌-◌, ◌≤◌, ◌<◌, ◌≡◌, Bool, true, false, not, ◌⊎◌, List, [], ◌∷◌, map, pos, ◌+ℤ◌, T, Float}
use Rattle.std.specs.Float.Ieee.{is_nan, eq}
use Rattle.std.specs.Int.{w64}
use Rattle.std.proofs.Common.{SFits}
use Rattle.numbers.specs.Num.{◌⊕◌, ◌⊗◌, half, zero64}
use Rattle.seqs.specs.Lists.{upto, sift, fold}
use Rattle.seqs.specs.Slices.{capped}
use Rattle.geom.specs.declared.point.P.{P}
use Rattle.geom.specs.Outline.{rings, Layout}
use Rattle.outlines.specs.declared.rule.FillRule.{FillRule}
use Rattle.outlines.specs.Sides.{Gathered}
use Rattle.limits.specs.Limits.{most_cells}
use Rattle.patterns_rules.specs.declared.Bounds.{Bounds}
use Rattle.patterns_rules.specs.declared.Grid.{Grid}
use Rattle.patterns_rules.specs.declared.Run.{Run}
use Rattle.patterns_rules.specs.Patterns.{nowhere, widen, runs, cell_inside, out_and_back}

-- the bounds of a list of corners
abbrev pub bounds_of : List P → Bounds
bounds_of ps = fold widen nowhere ps

-- x is y, or both are zeros
pub record Side (x y : Float) : Type 0 where
  pub number : T (not (is_nan x))
  pub like : (x ≡ y) ⊎ (T (eq x zero64) × T (eq y zero64))

-- bounds that differ in signs of zeros only
pub record Alike (a b : Bounds) : Type 0 where
  pub left : Side a.left b.left
  pub top : Side a.top b.top
  pub right : Side a.right b.right
  pub bottom : Side a.bottom b.bottom

-- no side is a zero
pub record Settled (b : Bounds) : Type 0 where
  pub left : eq b.left zero64 ≡ false
  pub top : eq b.top zero64 ≡ false
  pub right : eq b.right zero64 ≡ false
  pub bottom : eq b.bottom zero64 ≡ false

-- counts stopped one past 4,096
abbrev pub stopped : Grid → Grid
stopped g = record { cell = g.cell; left = g.left; columns = capped most_cells g.columns; top = g.top; rows = capped most_cells g.rows }

-- a grid of at most 4,096 cells either way, all of whose columns and rows have numbers
pub record Laid (g : Grid) : Type 0 where
  pub left : SFits w64 g.left
  pub top : SFits w64 g.top
  pub column : (i : ℕ) → i < g.columns → SFits w64 (g.left +ℤ pos i)
  pub row : (r : ℕ) → r < g.rows → SFits w64 (g.top +ℤ pos r)
  pub columns : g.columns ≤ most_cells
  pub rows : g.rows ≤ most_cells

-- an outline, and in the first numbers of a slice, if it has so many, its sides across the centres of the row at y
pub record Crossed (corners : List Float) (ends : List ℕ) (sides : List Float) (size : ℕ) (g : Grid) (y : Float) : Type 0 where
  pub layout : Layout corners ends
  pub across : Gathered (rings corners ends) (y ⊕ g.cell ⊗ half) size sides

-- the runs of the cells from i up to n
abbrev pub runs_in : (ℕ → Bool) → ℕ → ℕ → List Run
runs_in inside n i = runs (sift inside (upto i (n - i)))

-- r is the first cell from i on that is inside, or n
pub record First (inside : ℕ → Bool) (n i r : ℕ) : Type 0 where
  pub low : i ≤ r
  pub high : r ≤ n
  pub skips : runs_in inside n i ≡ runs_in inside n r
  pub found : r < n → inside r ≡ true

-- r is the first cell from i on that isn't, or n
pub record Stop (inside : ℕ → Bool) (n i r : ℕ) : Type 0 where
  pub low : i ≤ r
  pub high : r ≤ n
  pub all : (j : ℕ) → i ≤ j → j < r → inside j ≡ true
  pub stops : r < n → inside r ≡ false

-- r is the next run from i on; with none left its count is 0
pub record Next (inside : ℕ → Bool) (n i : ℕ) (r : Run) : Type 0 where
  pub low : i ≤ r.first
  pub high : r.first + r.many ≤ n
  pub ends : r.many ≡ 0 → runs_in inside n i ≡ []
  pub goes : 0 < r.many → runs_in inside n i ≡ r ∷ runs_in inside n (r.first + r.many)

-- the rows of stitches of a row's cells from i on
abbrev pub lines_in : List (List P) → FillRule → Grid → Float → ℕ → List (List P)
lines_in rings rule g y i = map (out_and_back g y) (runs_in (cell_inside rings rule g y) g.columns i)

-- r is the first cell from i on that is inside, or, where yes is false, that isn't; or n
pub record Scan (inside : ℕ → Bool) (n : ℕ) (yes : Bool) (i r : ℕ) : Type 0 where
  pub low : i ≤ r
  pub high : r ≤ n
  pub before : (j : ℕ) → i ≤ j → j < r → inside j ≡ not yes
  pub found : r < n → inside r ≡ yes

-- r is the next run from i on
pub record NextRun (inside : ℕ → Bool) (n i : ℕ) (r : Run) : Type 0 where
  pub low : i ≤ r.first
  pub high : r.first + r.many ≤ n
  pub some : 0 < r.many
  pub goes : runs_in inside n i ≡ r ∷ runs_in inside n (r.first + r.many)
