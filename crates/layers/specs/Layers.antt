-- A light fill beneath a dense one (request [6]): both read one edge table, prepared once from rings, cosine and sine. Who is turned away, and what one call leaves in each slice. Definitions only.
use Rattle.std.specs.Prelude.{ℕ, ◌*◌, Bool, not, ◌||◌, cond, List, ltb, length, Float}
use Rattle.refusal.specs.Refusal.{DONE, LAYOUT, NUMBER, SETTING, TURN, SIZE, WORK, ROOM, ◌then◌}
use Rattle.numbers.specs.Num.{zero64}
use Rattle.geom.specs.Outline.{rings}
use Rattle.outlines.specs.declared.rule.FillRule.{FillRule}
use Rattle.limits.specs.Limits.{most_rows, good_outline, good_numbers, good_turn}
use Rattle.rules.specs.declared.Settings.{Settings}
use Rattle.rules.specs.declared.Edge.{Edge}
use Rattle.rules.specs.Fill.{edges, row_numbers, row_list, tatami, good_settings}
use Rattle.rules.specs.Calls.{worked, sewn_fits}
use Rattle.tatami.specs.Left.{Left, left_by}
use Rattle.layers.specs.declared.Layer.{Layer}

-- ---- the table

-- what the table is prepared from, beside the rings; a fill's own settings don't count
abbrev pub turn_of : Float → Float → Settings
turn_of cosine sine = record { spacing = zero64; len = zero64; inset = zero64; pull = zero64; cosine = cosine; sine = sine }

unfoldable pub table_of : List Float → List ℕ → Float → Float → List Edge
table_of corners ends cosine sine = edges (turn_of cosine sine) (rings corners ends)

-- for the table 1, 2, 4 and 6: 6E floats and 4E whole numbers
unfoldable pub table_refusal : List Float → List ℕ → Float → Float → ℕ → ℕ → ℕ
table_refusal corners ends cosine sine floats wholes =
    let e = length (table_of corners ends cosine sine) in
    cond (not (good_outline corners ends)) LAYOUT
    (cond (not (good_numbers corners)) NUMBER
    (cond (not (good_turn cosine sine)) TURN
    (cond (ltb floats (6 * e) || ltb wholes (4 * e)) WORK DONE)))

-- ---- one of the two fills

-- a fill's own settings, at the table's angle
abbrev pub settings_of : Layer → Float → Float → Settings
settings_of t cosine sine = record { spacing = t.spacing; len = t.len; inset = t.inset; pull = t.pull; cosine = cosine; sine = sine }

-- 6 and 7, where 3 and 5 don't apply: 4I floats and 6I whole numbers of its own slices, and an output that `fits` or not
unfoldable pub layer_roomed : List Float → List ℕ → FillRule → Settings → Bool → ℕ → ℕ → Bool → ℕ
layer_roomed corners ends rule g bottomUp floats wholes fits =
    let i = length (row_list (rings corners ends) rule g bottomUp) in
    cond (ltb floats (4 * i) || ltb wholes (6 * i)) WORK (cond (not fits) ROOM DONE)

-- for each fill 3, 5, 6 and 7, in that order
unfoldable pub layer_refusal : List Float → List ℕ → FillRule → Settings → ℕ → Bool → ℕ → ℕ → Bool → ℕ
layer_refusal corners ends rule g stagger bottomUp floats wholes fits =
    cond (not (good_settings g stagger)) SETTING
    (cond (ltb most_rows (length (row_numbers g (edges g (rings corners ends))))) SIZE
    (layer_roomed corners ends rule g bottomUp floats wholes fits))

-- what one fill says and leaves in its outputs and working slices: the table's refusal n is given to both fills, then comes the fill's own
unfoldable pub layer_left : ℕ → List Float → List ℕ → FillRule → Settings → ℕ → Bool → List Float → List ℕ → List Float → List ℕ → Left
layer_left n corners ends rule g stagger bottomUp points stops floats wholes =
    let ss = tatami (rings corners ends) rule g stagger bottomUp in
    left_by (n then layer_refusal corners ends rule g stagger bottomUp (length floats) (length wholes) (sewn_fits ss (length points) (length stops))) ss points stops floats wholes

-- ---- both

-- the slices that one fill is lent
pub record Slices : Type 0 where
  pub points : List Float
  pub stops : List ℕ
  pub floats : List Float
  pub wholes : List ℕ

abbrev pub slices : List Float → List ℕ → List Float → List ℕ → Slices
slices points stops floats wholes = record { points = points; stops = stops; floats = floats; wholes = wholes }

-- what the call leaves: both fills, and the table's two slices
pub record Twice : Type 0 where
  pub first : Left
  pub second : Left
  pub table : List Float
  pub places : List ℕ

abbrev pub twice : Left → Left → List Float → List ℕ → Twice
twice first second table places = record { first = first; second = second; table = table; places = places }

-- by the table's number n
abbrev pub twice_by : ℕ → List Float → List ℕ → FillRule → Float → Float → Layer → Layer → Slices → Slices → List Float → List ℕ → Twice
twice_by n corners ends rule cosine sine first second a b table places =
    twice
    (layer_left n corners ends rule (settings_of first cosine sine) first.stagger first.upward a.points a.stops a.floats a.wholes)
    (layer_left n corners ends rule (settings_of second cosine sine) second.stagger second.upward b.points b.stops b.floats b.wholes)
    (worked n zero64 table)
    (worked n 0 places)

unfoldable pub twice_left : List Float → List ℕ → FillRule → Float → Float → Layer → Layer → Slices → Slices → List Float → List ℕ → Twice
twice_left corners ends rule cosine sine first second a b table places =
    twice_by (table_refusal corners ends cosine sine (length table) (length places)) corners ends rule cosine sine first second a b table places
