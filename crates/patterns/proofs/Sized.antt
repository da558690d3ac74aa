-- The grid that was counted up to 4,096 is the definition's, or is refused. Assumes nothing.
use Prim.Native.Nat.{ℕ, ◌*◌, ◌/◌, ◌≤◌, ◌<◌}
use native.Mathlib.Omega.{arith}
use native.Mathlib.Nat.{mul_comm, mul_left_comm, mul-le-mul}
use mathlib.Core.Path.{◌≡◌, ap, ◌∙◌}
use mathlib.Core.Bool.{true, false}
use mathlib.Core.List.{List}
use lib.ListN.{length}
use lib.Ieee.{Float}
use Rattle.geom.specs.declared.point.P.{P}
use Rattle.outlines.specs.declared.rule.FillRule.{FillRule}
use Rattle.rules.specs.Calls.{sewn_points}
use Rattle.geom.specs.Outline.{points, rings}
use Rattle.limits.specs.Limits.{most_cells, good_outline}
use Rattle.limits.specs.LimitsLaws.{outline_layout}
use Rattle.patterns_rules.specs.declared.Grid.{Grid}
use Rattle.patterns_rules.specs.Patterns.{grid_in, grid_of, bounds, stitched}
use Rattle.patterns_rules.specs.Answers.{good_grid}
use Rattle.cross.specs.Cells.{bounds_of, stopped, Laid}
use Rattle.cross.specs.BoundLaws.{bounds_are}
use Rattle.cross.specs.Most.{points_most, lines_most}
use Rattle.cross.specs.GridLaws.{laid, stopped_is, wide, tall, small}

module _ (corners : List Float) (ends : List ℕ) (cell : Float) (o : good_outline corners ends ≡ true) {g : Grid} (e : g ≡ stopped (grid_in (bounds_of (points corners)) cell)) where
  counted : g ≡ stopped (grid_of (rings corners ends) cell)
  unfolding grid_of
  counted = e ∙ ap (λ b. stopped (grid_in b cell)) (bounds_are corners ends (outline_layout corners ends o))

  pub too_wide : most_cells < g.columns → good_grid (grid_of (rings corners ends) cell) ≡ false
  too_wide h = wide (grid_of (rings corners ends) cell) (rw counted at h)

  pub too_tall : most_cells < g.rows → good_grid (grid_of (rings corners ends) cell) ≡ false
  too_tall h = tall (grid_of (rings corners ends) cell) (rw counted at h)

  module _ (h : g.columns ≤ most_cells) (k : g.rows ≤ most_cells) where
    pub grid_is : g ≡ grid_of (rings corners ends) cell
    grid_is = counted ∙ stopped_is (grid_of (rings corners ends) cell) (rw counted at h) (rw counted at k)

    pub good : good_grid (grid_of (rings corners ends) cell) ≡ true
    good = small (grid_of (rings corners ends) cell) (rw grid_is at h) (rw grid_is at k)

    pub is_laid : Laid g
    unfolding grid_of
    is_laid = rw grid_is (laid (bounds (rings corners ends)) cell (rw grid_is at h) (rw grid_is at k))

-- ---- the most that a grid can have

module _ (g : Grid) where
  pub cells_few : Laid g → g.columns * g.rows ≤ 4096 * 4096
  cells_few l = mul-le-mul l.columns l.rows

module _ (rings : List (List P)) (rule : FillRule) (g : Grid) where
  pub points_within : (room : ℕ) → g.columns * g.rows ≤ room / 8 → length (sewn_points (stitched rings rule g)) ≤ room / 2
  points_within room h =
      let e : g.rows * (4 * g.columns) ≡ 4 * (g.columns * g.rows) = simp (mul_comm, mul_left_comm) (omega arith) in
      omega (arith, points_most rings rule g, e)

  pub lines_within : (room : ℕ) → g.columns * g.rows ≤ room → length (stitched rings rule g) ≤ room
  lines_within room h = omega (arith, lines_most rings rule g, mul_comm g.rows g.columns)
