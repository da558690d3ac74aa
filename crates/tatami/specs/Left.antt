-- All that a call of a fill leaves behind: what it says, its outputs and its working slices, by document 01's number. Definitions only.
use Rattle.std.specs.Prelude.{ℕ, Bool, List, ℤ, length, Float, Result, Ok, Err}
use Rattle.numbers.specs.Num.{zero64}
use Rattle.geom.specs.declared.point.P.{P}
use Rattle.outlines.specs.declared.rule.FillRule.{FillRule}
use Rattle.geom.specs.Outline.{rings}
use Rattle.geom.specs.Sewing.{flat}
use Rattle.rules.specs.declared.Settings.{Settings}
use Rattle.rules.specs.declared.Entry.{Entry}
use Rattle.rules.specs.Fill.{row_list, tatami}
use Rattle.rules.specs.Calls.{counted, worked, sewn_points, sewn_ends, tatami_answer, listed_floats, listed_rows, listed_sections, row_list_answer}
use Rattle.refusal.specs.declared.Refusal.{Refusal}
use Rattle.refusal.specs.Refusal.{DONE, number}
use Rattle.tatami.specs.declared.Filled.{Filled as Sewn}
use Rattle.refusal.specs.Sewn.{output}

-- ---- tatami

-- what `tatami` says: document 01's number, how many sections and how many points; no section and no point after a refusal
pub record Filled : Type 0 where
  pub answer : ℕ
  pub sections : ℕ
  pub points : ℕ

abbrev pub said_filled : Result Sewn Refusal → Filled
said_filled (Ok s) = record { answer = DONE; sections = s.sections; points = s.points }
said_filled (Err e) = record { answer = number e; sections = 0; points = 0 }

-- what it says, by its number n, of the sections ss
abbrev pub filled : ℕ → List (List P) → Filled
filled n ss = record { answer = n; sections = counted n (length ss); points = counted n (length (sewn_points ss)) }

pub record Left : Type 0 where
  pub said : Filled
  pub points : List Float
  pub ends : List ℕ
  pub floats : List Float
  pub wholes : List ℕ

abbrev pub left : Filled → List Float → List ℕ → List Float → List ℕ → Left
left said points ends floats wholes = record { said = said; points = points; ends = ends; floats = floats; wholes = wholes }

-- by its number n, of the sections ss and the slices lent
abbrev pub left_by : ℕ → List (List P) → List Float → List ℕ → List Float → List ℕ → Left
left_by n ss points ends floats wholes = left (filled n ss) (output n (flat (sewn_points ss)) points) (output n (sewn_ends 0 ss) ends) (worked n zero64 floats) (worked n 0 wholes)

unfoldable pub tatami_left : List Float → List ℕ → FillRule → Settings → ℕ → Bool → List Float → List ℕ → List Float → List ℕ → Left
tatami_left corners ends rule g stagger bottomUp points sectionEnds floats wholes =
    left_by (tatami_answer corners ends rule g stagger bottomUp (length floats) (length wholes) (length points) (length sectionEnds)) (tatami (rings corners ends) rule g stagger bottomUp) points sectionEnds floats wholes

-- ---- the row list

-- what the row list says: the number, and how many pieces; none after a refusal
pub record Listed : Type 0 where
  pub answer : ℕ
  pub pieces : ℕ

abbrev pub said_listed : Result ℕ Refusal → Listed
said_listed (Ok n) = record { answer = DONE; pieces = n }
said_listed (Err e) = record { answer = number e; pieces = 0 }

abbrev pub listed : ℕ → List Entry → Listed
listed n es = record { answer = n; pieces = counted n (length es) }

pub record LeftList : Type 0 where
  pub said : Listed
  pub ys : List Float
  pub rows : List ℤ
  pub sections : List ℕ
  pub floats : List Float
  pub wholes : List ℕ

abbrev pub left_list : Listed → List Float → List ℤ → List ℕ → List Float → List ℕ → LeftList
left_list said ys rows sections floats wholes = record { said = said; ys = ys; rows = rows; sections = sections; floats = floats; wholes = wholes }

abbrev pub left_list_by : ℕ → List Entry → List Float → List ℤ → List ℕ → List Float → List ℕ → LeftList
left_list_by n es ys rows sections floats wholes = left_list (listed n es) (output n (listed_floats es) ys) (output n (listed_rows es) rows) (output n (listed_sections es) sections) (worked n zero64 floats) (worked n 0 wholes)

unfoldable pub row_list_left : List Float → List ℕ → FillRule → Settings → ℕ → Bool → List Float → List ℤ → List ℕ → List Float → List ℕ → LeftList
row_list_left corners ends rule g stagger bottomUp ys rows sections floats wholes =
    left_list_by (row_list_answer corners ends rule g stagger bottomUp (length floats) (length wholes) (length ys) (length rows) (length sections)) (row_list (rings corners ends) rule g bottomUp) ys rows sections floats wholes
