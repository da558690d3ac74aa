-- The plain engine's two calls: the fill's table of refusals with a need of its own at WORK, and what a call leaves by its number. Definitions only.
use Rattle.std.specs.Prelude.{ℕ, Bool, not, ◌||◌, cond, List, ltb, ℤ, length, Float}
use Rattle.refusal.specs.Refusal.{DONE, WORK, ROOM}
use Rattle.geom.specs.Outline.{rings}
use Rattle.outlines.specs.declared.rule.FillRule.{FillRule}
use Rattle.rules.specs.declared.Settings.{Settings}
use Rattle.rules.specs.Fill.{row_list, tatami, gate}
use Rattle.rules.specs.Calls.{sewn_fits, list_fits}
use Rattle.rowwise.specs.Rows.{plain_floats, plain_wholes}
use Rattle.tatami.specs.Left.{Left, left_by, LeftList, left_list_by}

-- WORK and ROOM, where 1 to 5 don't apply: the need is 4I floats and 6I whole numbers, edges or not
unfoldable pub plain_roomed : List Float → List ℕ → FillRule → Settings → Bool → ℕ → ℕ → Bool → ℕ
plain_roomed corners ends rule g bottomUp floats wholes fits =
    let i = length (row_list (rings corners ends) rule g bottomUp) in
    cond (ltb floats (plain_floats i) || ltb wholes (plain_wholes i)) WORK (cond (not fits) ROOM DONE)

-- the first of the table that applies
unfoldable pub plain_refusal : List Float → List ℕ → FillRule → Settings → ℕ → Bool → ℕ → ℕ → Bool → ℕ
plain_refusal corners ends rule g stagger bottomUp floats wholes fits = gate corners ends g stagger (plain_roomed corners ends rule g bottomUp floats wholes fits)

-- ---- tatami

unfoldable pub plain_tatami_answer : List Float → List ℕ → FillRule → Settings → ℕ → Bool → ℕ → ℕ → ℕ → ℕ → ℕ
plain_tatami_answer corners ends rule g stagger bottomUp floats wholes points sectionEnds =
    plain_refusal corners ends rule g stagger bottomUp floats wholes (sewn_fits (tatami (rings corners ends) rule g stagger bottomUp) points sectionEnds)

unfoldable pub plain_tatami_left : List Float → List ℕ → FillRule → Settings → ℕ → Bool → List Float → List ℕ → List Float → List ℕ → Left
plain_tatami_left corners ends rule g stagger bottomUp points sectionEnds floats wholes =
    left_by (plain_tatami_answer corners ends rule g stagger bottomUp (length floats) (length wholes) (length points) (length sectionEnds)) (tatami (rings corners ends) rule g stagger bottomUp) points sectionEnds floats wholes

-- ---- the row list

unfoldable pub plain_row_list_answer : List Float → List ℕ → FillRule → Settings → ℕ → Bool → ℕ → ℕ → ℕ → ℕ → ℕ → ℕ
plain_row_list_answer corners ends rule g stagger bottomUp floats wholes ys rows sections =
    plain_refusal corners ends rule g stagger bottomUp floats wholes (list_fits (length (row_list (rings corners ends) rule g bottomUp)) ys rows sections)

unfoldable pub plain_row_list_left : List Float → List ℕ → FillRule → Settings → ℕ → Bool → List Float → List ℤ → List ℕ → List Float → List ℕ → LeftList
plain_row_list_left corners ends rule g stagger bottomUp ys rows sections floats wholes =
    left_list_by (plain_row_list_answer corners ends rule g stagger bottomUp (length floats) (length wholes) (length ys) (length rows) (length sections)) (row_list (rings corners ends) rule g bottomUp) ys rows sections floats wholes
