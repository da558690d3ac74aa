-- The two calls of a fill: what a call answers and leaves in each slice, by Fill's refusal. Definitions only.
use Rattle.std.specs.Prelude.{ℕ, ◌+◌, ◌*◌, Bool, ◌&&◌, cond, List, [], ◌∷◌, map, leb, eqb, ℤ, length, replicate, Float}
use Rattle.refusal.specs.Refusal.{DONE}
use Rattle.seqs.specs.Lists.{each}
use Rattle.geom.specs.declared.point.P.{P}
use Rattle.geom.specs.Outline.{rings}
use Rattle.outlines.specs.declared.rule.FillRule.{FillRule}
use Rattle.rules.specs.declared.Settings.{Settings}
use Rattle.rules.specs.declared.Entry.{Entry}
use Rattle.rules.specs.Fill.{row_list, tatami, refusal}

-- ---- what a call leaves, by its answer n: an output slice is `output` of refusal/specs/Sewn

-- a count: every refusal returns zero counts
abbrev pub counted : ℕ → ℕ → ℕ
counted n c = cond (eqb n DONE) c 0

-- a working slice: all zero after 0, 6 and 7, unchanged after 1 to 5
abbrev pub worked : {A : Type 0} → ℕ → A → List A → List A
worked n z w = cond (leb 1 n && leb n 5) w (replicate (length w) z)

-- ---- the output of tatami

-- the points of all sections, each an x and a y
unfoldable pub sewn_points : List (List P) → List P
sewn_points ss = each (λ s. s) ss

-- where each section ends, counted in points
unfoldable pub sewn_ends : ℕ → List (List P) → List ℕ
sewn_ends n [] = []
sewn_ends n (s ∷ ss) = (n + length s) ∷ sewn_ends (n + length s) ss

-- there is room for the sections ss in output slices of `points` floats and `sectionEnds` whole numbers
abbrev pub sewn_fits : List (List P) → ℕ → ℕ → Bool
sewn_fits ss points sectionEnds = leb (2 * length (sewn_points ss)) points && leb (length ss) sectionEnds

-- tatami's answer
unfoldable pub tatami_answer : List Float → List ℕ → FillRule → Settings → ℕ → Bool → ℕ → ℕ → ℕ → ℕ → ℕ
tatami_answer corners ends rule g stagger bottomUp floats wholes points sectionEnds =
    refusal corners ends rule g stagger bottomUp floats wholes (sewn_fits (tatami (rings corners ends) rule g stagger bottomUp) points sectionEnds)

-- ---- the output of the row list

-- y, xa and xb of each piece
unfoldable pub listed_floats : List Entry → List Float
listed_floats es = each (λ e. e.piece.y ∷ e.piece.xa ∷ e.piece.xb ∷ []) es

-- its row number
unfoldable pub listed_rows : List Entry → List ℤ
listed_rows es = map (λ e. e.piece.k) es

-- its section number
unfoldable pub listed_sections : List Entry → List ℕ
listed_sections es = map (λ e. e.section) es

-- there is room for n pieces in output slices of `ys` floats, `rows` row numbers and `sections` section numbers
abbrev pub list_fits : ℕ → ℕ → ℕ → ℕ → Bool
list_fits n ys rows sections = leb (3 * n) ys && leb n rows && leb n sections

-- the row list's answer
unfoldable pub row_list_answer : List Float → List ℕ → FillRule → Settings → ℕ → Bool → ℕ → ℕ → ℕ → ℕ → ℕ → ℕ
row_list_answer corners ends rule g stagger bottomUp floats wholes ys rows sections =
    refusal corners ends rule g stagger bottomUp floats wholes (list_fits (length (row_list (rings corners ends) rule g bottomUp)) ys rows sections)
