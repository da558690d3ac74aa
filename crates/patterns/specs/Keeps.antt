-- Of an accepted outline with a corner, and an accepted cell, no cast of cross stitch loses anything: the ends of the grid are the floors and ceilings, whole numbers of at most 2 ^ 17 in size. Assumes nothing.
use Rattle.std.specs.Prelude.{ℕ, ◌<◌, ◌≡◌, true, false, ◌&&◌, List, [], ◌∷◌, pos, length, Float}
use Rattle.std.proofs.Common.{arith, lit≤}
use Rattle.std.specs.Float.{nan, inf, fin}
use Rattle.std.specs.Float.Ieee.{binary64, le, is_nan, of_int, round}
use Rattle.std.specs.Float.Ieee.Fits.{div-fits}
use Rattle.numbers.specs.Num.{◌⊘◌, real}
use Rattle.numbers.specs.Order.{before, smaller, larger}
use Rattle.numbers.specs.Whole.{floor, ceil}
use Rattle.numbers.specs.Value.{Within, AtLeast, IsWhole}
use Rattle.numbers.specs.Laws.{smaller_has, larger_has, within_finite, within_between, within_div, within_real, atleast_le, floor_signed, ceil_signed, holds}
use Rattle.seqs.specs.Lists.{fold, All}
use Rattle.seqs.specs.Tests.{and_both}
use Rattle.geom.specs.declared.point.P.{P}
use Rattle.geom.specs.Outline.{points, rings}
use Rattle.limits.specs.Limits.{within, good_number, good_numbers, good_cell, good_outline}
use Rattle.limits.specs.LimitsLaws.{outline_layout, good_within}
use Rattle.patterns_rules.specs.declared.Bounds.{Bounds}
use Rattle.patterns_rules.specs.Patterns.{nowhere, widen, bounds, first_cell, past_cell}
use Rattle.cross.specs.Cells.{bounds_of}
use Rattle.cross.specs.BoundLaws.{bounds_are}

-- ---- an accepted number and an accepted cell

one_least : AtLeast 0 (real (pos 1))
unfolding AtLeast of_int round
one_least = lit≤ tt

cell_least : (cell : Float) → good_cell cell ≡ true → AtLeast 0 cell
unfolding good_cell within
cell_least cell h =
    let p = and_both (le (real (pos 1)) cell) (le cell (real (pos 1000))) h in
    let w = within_between 10 (real (pos 1)) cell (real (pos 1000)) (holds p.0) (holds p.1) (within_real 10 (pos 1) (lit≤ tt) (lit≤ tt)) (within_real 10 (pos 1000) (lit≤ tt) (lit≤ tt)) in
    atleast_le 0 (real (pos 1)) cell one_least (within_finite 10 cell w) (holds p.0)

-- ---- the box of accepted corners

abbrev Near : P → Type 0
Near p = Within 17 p.x × Within 17 p.y

abbrev Boxed : Bounds → Type 0
Boxed b = Within 17 b.left × Within 17 b.top × Within 17 b.right × Within 17 b.bottom

all_near : (l : List Float) → good_numbers l ≡ true → All Near (points l)
unfolding good_numbers points
all_near [] h = tt
all_near (x ∷ []) h = tt
all_near (x ∷ y ∷ l) h =
    let p = and_both (good_number x) (good_number y && good_numbers l) h in
    let q = and_both (good_number y) (good_numbers l) p.1 in
    ((good_within x p.0, good_within y q.0), all_near l q.1)

first_small : (y : Float) → Within 17 y → Within 17 (smaller (inf false) y)
unfolding Within smaller before is_nan
first_small nan h = h
first_small (inf s) h = absurd h
first_small (fin s m e) h = h

first_large : (y : Float) → Within 17 y → Within 17 (larger (inf true) y)
unfolding Within larger before is_nan
first_large nan h = h
first_large (inf s) h = absurd h
first_large (fin s m e) h = h

boxed_on : (ps : List P) (b : Bounds) → All Near ps → Boxed b → Boxed (fold widen b ps)
boxed_on [] b h k = k
boxed_on (p ∷ ps) b h k =
    boxed_on ps (widen p b) h.1
    (smaller_has (Within 17) b.left p.x k.0 h.0.0, smaller_has (Within 17) b.top p.y k.1 h.0.1, larger_has (Within 17) b.right p.x k.2 h.0.0, larger_has (Within 17) b.bottom p.y k.3 h.0.1)

boxed : (ps : List P) → All Near ps → 0 < length ps → Boxed (bounds_of ps)
boxed [] h l = absurd (omega arith)
boxed (p ∷ ps) h l = boxed_on ps (widen p nowhere) h.1 (first_small p.x h.0.0, first_small p.y h.0.1, first_large p.x h.0.0, first_large p.y h.0.1)

-- ---- the ends of the grid

module _ (corners : List Float) (ends : List ℕ) (cell : Float) (o : good_outline corners ends ≡ true) (n : good_numbers corners ≡ true) (c : good_cell cell ≡ true) (some : 0 < length (points corners)) where
  box : Boxed (bounds (rings corners ends))
  box = rw (bounds_are corners ends (outline_layout corners ends o)) at (boxed (points corners) (all_near corners n) some)

  in_cells : (x : Float) → Within 17 x → Within 17 (x ⊘ cell)
  in_cells x h = within_div 17 0 x cell (lit≤ tt) h (cell_least cell c)

  pub left_keeps : IsWhole 17 (floor ((bounds (rings corners ends)).left ⊘ cell)) (first_cell (bounds (rings corners ends)).left cell)
  unfolding first_cell
  left_keeps = let x = (bounds (rings corners ends)).left in floor_signed 17 (x ⊘ cell) (lit≤ tt) (div-fits binary64 x cell) (in_cells x box.0)

  pub top_keeps : IsWhole 17 (floor ((bounds (rings corners ends)).top ⊘ cell)) (first_cell (bounds (rings corners ends)).top cell)
  unfolding first_cell
  top_keeps = let x = (bounds (rings corners ends)).top in floor_signed 17 (x ⊘ cell) (lit≤ tt) (div-fits binary64 x cell) (in_cells x box.1)

  pub right_keeps : IsWhole 17 (ceil ((bounds (rings corners ends)).right ⊘ cell)) (past_cell (bounds (rings corners ends)).right cell)
  unfolding past_cell
  right_keeps = let x = (bounds (rings corners ends)).right in ceil_signed 17 (x ⊘ cell) (lit≤ tt) (div-fits binary64 x cell) (in_cells x box.2)

  pub bottom_keeps : IsWhole 17 (ceil ((bounds (rings corners ends)).bottom ⊘ cell)) (past_cell (bounds (rings corners ends)).bottom cell)
  unfolding past_cell
  bottom_keeps = let x = (bounds (rings corners ends)).bottom in ceil_signed 17 (x ⊘ cell) (lit≤ tt) (div-fits binary64 x cell) (in_cells x box.3)
