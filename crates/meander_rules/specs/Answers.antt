-- The meander's call: its checks in document 01's order, and what it leaves in each slice. Definitions only.
use Rattle.std.specs.Prelude.{ℕ, ◌*◌, ◌&&◌, cond, List, leb, ltb, length, Float}
use Rattle.refusal.specs.Refusal.{SETTING, WORK, unless, ◌then◌}
use Rattle.outlines.specs.declared.rule.FillRule.{FillRule}
use Rattle.geom.specs.Outline.{rings}
use Rattle.limits.specs.Limits.{good_spacing, good_len}
use Rattle.geometry.specs.Answers.{outline}
use Rattle.rules.specs.Calls.{worked}
use Rattle.patterns_rules.specs.Answers.{Lines, room_for, said_lines, left_points, left_ends}
use Rattle.meander_rules.specs.declared.Lattice.{Lattice}
use Rattle.meander_rules.specs.Meander.{points_of, most_points, lattice_of, meander}

-- the need: eight whole numbers per grid point; none where the grid is too large
unfoldable pub need_of : Lattice → ℕ
need_of g = cond (ltb most_points (points_of g)) 0 (8 * points_of g)

-- `room`, `lineRoom` and `wholes` are the lengths of the slices that are lent
unfoldable pub meander_refusal : List Float → List ℕ → FillRule → Float → Float → ℕ → ℕ → ℕ → ℕ → ℕ
meander_refusal corners ends rule spacing len seed room lineRoom wholes =
    outline corners ends then unless SETTING (good_spacing spacing && good_len len) then unless WORK (leb (need_of (lattice_of (rings corners ends) spacing)) wholes)
    then room_for (meander (rings corners ends) rule spacing len seed) room lineRoom

unfoldable pub meander_said : List Float → List ℕ → FillRule → Float → Float → ℕ → ℕ → ℕ → ℕ → Lines
meander_said corners ends rule spacing len seed room lineRoom wholes =
    said_lines (meander_refusal corners ends rule spacing len seed room lineRoom wholes) (meander (rings corners ends) rule spacing len seed)

unfoldable pub meander_points : List Float → List ℕ → FillRule → Float → Float → ℕ → List Float → List ℕ → List ℕ → List Float
meander_points corners ends rule spacing len seed out lineEnds wholes =
    left_points (meander_refusal corners ends rule spacing len seed (length out) (length lineEnds) (length wholes)) (meander (rings corners ends) rule spacing len seed) out

unfoldable pub meander_ends : List Float → List ℕ → FillRule → Float → Float → ℕ → List Float → List ℕ → List ℕ → List ℕ
meander_ends corners ends rule spacing len seed out lineEnds wholes =
    left_ends (meander_refusal corners ends rule spacing len seed (length out) (length lineEnds) (length wholes)) (meander (rings corners ends) rule spacing len seed) lineEnds

-- the working slice
unfoldable pub meander_wholes : List Float → List ℕ → FillRule → Float → Float → ℕ → List Float → List ℕ → List ℕ → List ℕ
meander_wholes corners ends rule spacing len seed out lineEnds wholes =
    worked (meander_refusal corners ends rule spacing len seed (length out) (length lineEnds) (length wholes)) 0 wholes
