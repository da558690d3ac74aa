-- Document 01's answers of bounds, clipping and cross stitch: each call's checks in the table's order, and what it leaves in each slice. Definitions only.
use Rattle.std.specs.Prelude.{ℕ, ◌≡◌, Bool, ◌&&◌, cond, List, leb, eqb, length, Float, Result, Ok, Err}
use Rattle.refusal.specs.declared.Refusal.{Refusal}
use Rattle.refusal.specs.Refusal.{DONE, LAYOUT, NUMBER, SETTING, SIZE, ROOM, Answer, number, unless, answer, ◌then◌}
use Rattle.refusal.specs.Sewn.{output}
use Rattle.geom.specs.declared.point.P.{P}
use Rattle.outlines.specs.declared.rule.FillRule.{FillRule}
use Rattle.geom.specs.Outline.{points, rings}
use Rattle.limits.specs.Limits.{most_cells, good_numbers, good_outline, good_line, good_cell}
use Rattle.geom.specs.Sewing.{flat}
use Rattle.geometry.specs.Answers.{outline}
use Rattle.rules.specs.Calls.{sewn_points, sewn_ends}
use Rattle.patterns_rules.specs.declared.Bounds.{Bounds}
use Rattle.patterns_rules.specs.declared.Grid.{Grid}
use Rattle.patterns_rules.specs.declared.Count.{Count}
use Rattle.patterns_rules.specs.Patterns.{bounds, clip_inside, grid_of, cross_stitch}

-- ---- lines in two output slices: their points, x before y, and where each line ends, counted in points

-- ROOM, unless the slices have room for both
unfoldable pub room_for : List (List P) → ℕ → ℕ → ℕ
room_for ls points ends = unless ROOM (leb (length (flat (sewn_points ls))) points && leb (length ls) ends)

-- what a call that sews lines says: a number of the table, how many lines stand in its output, and how many points they have; none after a refusal
pub record Lines : Type 0 where
  pub answer : ℕ
  pub lines : ℕ
  pub points : ℕ

abbrev pub said_count : Result Count Refusal → Lines
said_count (Ok c) = record { answer = DONE; lines = c.lines; points = c.points }
said_count (Err e) = record { answer = number e; lines = 0; points = 0 }

-- what a call says, by its answer n: every refusal returns zero counts
unfoldable pub said_lines : ℕ → List (List P) → Lines
said_lines n ls = cond (eqb n DONE) (record { answer = DONE; lines = length ls; points = length (sewn_points ls) }) (record { answer = n; lines = 0; points = 0 })

-- how many lines, and how many points they have
unfoldable pub count_of : List (List P) → Count
count_of ls = record { lines = length ls; points = length (sewn_points ls) }

-- what it leaves in the slice of points, and in that of ends
unfoldable pub left_points : ℕ → List (List P) → List Float → List Float
left_points n ls out = output n (flat (sewn_points ls)) out

unfoldable pub left_ends : ℕ → List (List P) → List ℕ → List ℕ
left_ends n ls out = output n (sewn_ends 0 ls) out

-- the lines ls, sewn where there is room for them: what is said, and what stands in the two slices afterwards
pub record LinesSewn (ls : List (List P)) (r : Result Count Refusal) (out out' : List Float) (stops stops' : List ℕ) : Type 0 where
  pub says : said_count r ≡ said_lines (room_for ls (length out) (length stops)) ls
  pub points : out' ≡ left_points (room_for ls (length out) (length stops)) ls out
  pub ends : stops' ≡ left_ends (room_for ls (length out) (length stops)) ls stops

-- ---- the calls

unfoldable pub bounds_answer : List Float → List ℕ → Answer Bounds
bounds_answer corners ends = answer (outline corners ends) (bounds (rings corners ends))

-- the lines of both, then the numbers of both; `room` and `lineRoom` are the lengths of the output slices
unfoldable pub clip_refusal : List Float → List Float → List ℕ → FillRule → ℕ → ℕ → ℕ
clip_refusal l corners ends rule room lineRoom =
    unless LAYOUT (good_line l) then unless LAYOUT (good_outline corners ends) then unless NUMBER (good_numbers l) then unless NUMBER (good_numbers corners)
    then room_for (clip_inside (points l) (rings corners ends) rule) room lineRoom

unfoldable pub clip_said : List Float → List Float → List ℕ → FillRule → ℕ → ℕ → Lines
clip_said l corners ends rule room lineRoom = said_lines (clip_refusal l corners ends rule room lineRoom) (clip_inside (points l) (rings corners ends) rule)

unfoldable pub clip_points : List Float → List Float → List ℕ → FillRule → List Float → List ℕ → List Float
clip_points l corners ends rule out lineEnds = left_points (clip_refusal l corners ends rule (length out) (length lineEnds)) (clip_inside (points l) (rings corners ends) rule) out

unfoldable pub clip_ends : List Float → List Float → List ℕ → FillRule → List Float → List ℕ → List ℕ
clip_ends l corners ends rule out lineEnds = left_ends (clip_refusal l corners ends rule (length out) (length lineEnds)) (clip_inside (points l) (rings corners ends) rule) lineEnds

-- SIZE: over 4,096 cells either way
unfoldable pub good_grid : Grid → Bool
good_grid g = leb g.columns most_cells && leb g.rows most_cells

unfoldable pub cross_refusal : List Float → List ℕ → FillRule → Float → ℕ → ℕ → ℕ
cross_refusal corners ends rule cell room lineRoom =
    outline corners ends then unless SETTING (good_cell cell) then unless SIZE (good_grid (grid_of (rings corners ends) cell))
    then room_for (cross_stitch (rings corners ends) rule cell) room lineRoom

unfoldable pub cross_said : List Float → List ℕ → FillRule → Float → ℕ → ℕ → Lines
cross_said corners ends rule cell room lineRoom = said_lines (cross_refusal corners ends rule cell room lineRoom) (cross_stitch (rings corners ends) rule cell)

unfoldable pub cross_points : List Float → List ℕ → FillRule → Float → List Float → List ℕ → List Float
cross_points corners ends rule cell out lineEnds = left_points (cross_refusal corners ends rule cell (length out) (length lineEnds)) (cross_stitch (rings corners ends) rule cell) out

unfoldable pub cross_ends : List Float → List ℕ → FillRule → Float → List Float → List ℕ → List ℕ
cross_ends corners ends rule cell out lineEnds = left_ends (cross_refusal corners ends rule cell (length out) (length lineEnds)) (cross_stitch (rings corners ends) rule cell) lineEnds
