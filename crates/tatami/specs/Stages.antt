-- What the later stages of a fill hand to the next. Definitions only.
use Rattle.std.specs.Prelude.{ℕ, ◌*◌, ◌≤◌, ◌≡◌, Bool, cond, List, map, length, drop, get_or, Float, ℤ, Result, Ok, Err}
use Rattle.refusal.specs.declared.Refusal.{Refusal}
use Rattle.refusal.specs.declared.Refusal.TheVariants.{Work}
use Rattle.refusal.specs.Refusal.{WORK, ROOM, unless}
use Rattle.refusal.specs.Sewn.{output}
use Rattle.seqs.specs.Lists.{upto}
use Rattle.geom.specs.declared.point.P.{P}
use Rattle.geom.specs.Outline.{rings}
use Rattle.geom.specs.Sewing.{flat}
use Rattle.rules.specs.declared.Entry.{Entry}
use Rattle.rules.specs.Fill.{begun, row_list, sewn, tatami}
use Rattle.rules.specs.Calls.{sewn_points, sewn_ends, sewn_fits, listed_floats, listed_rows, listed_sections, list_fits}
use Rattle.edges.specs.declared.rows.Rows.{Rows}
use Rattle.edges.specs.Span.{row_number}
use Rattle.sections.specs.Mark.{Laid}
use Rattle.sewing.specs.declared.Field.{Field}
use Rattle.sewing.specs.Sewing.{entries_in, first_sections, Linked}
use Rattle.finding.specs.declared.Plan.{Plan}
use Rattle.finding.specs.declared.find.Found.{Found}
use Rattle.finding.specs.Stages.{Passed, alone}
use Rattle.tatami.specs.Left.{Filled, Listed, filled, listed}

-- the part behind the edges, as the later stages are lent it
pub record Lent (corners : List Float) (ends : List ℕ) (t : Plan) (n : ℕ) (pieces : List Float) (numbers : List ℕ) : Type 0 where
  pub passed : Passed corners ends t
  pub laid : Laid (alone corners ends t) pieces numbers n
  pub floats : 3 * n ≤ length pieces
  pub wholes : 6 * n ≤ length numbers

-- a stage's pieces, behind e edges
pub record Behind (corners : List Float) (ends : List ℕ) (t : Plan) (e n : ℕ) (d : List Float) (a : List ℕ) : Type 0 where
  pub few : e ≤ 1024
  pub floats : 6 * e ≤ length d
  pub wholes : 4 * e ≤ length a
  pub lent : Lent corners ends t n (drop (6 * e) d) (drop (4 * e) a)

-- what was found, as the later stages are handed it
abbrev pub Handed : List Float → List ℕ → Plan → List Float → List ℕ → Result Found Refusal → Type 0
Handed corners ends t floats wholes (Err e) = e ≡ Work
Handed corners ends t floats wholes (Ok f) = Behind corners ends t f.edges f.pieces floats wholes

-- the number of a call that comes so far: WORK where the pieces didn't fit, then ROOM
abbrev pub told : Result Found Refusal → Bool → ℕ
told (Err e) fits = WORK
told (Ok f) fits = unless ROOM fits

-- what sewing is told: the number of the first row met, and which way they go
abbrev pub field_of : Plan → ℕ → Field
field_of t n = record { g = t.g; stagger = t.stagger; row = cond t.upward t.rows.hi t.rows.lo; down = t.upward; pieces = n }

-- the pieces are the row list, marked and linked: `sections` sections
pub record Sectioned (corners : List Float) (ends : List ℕ) (t : Plan) (n : ℕ) (pieces : List Float) (numbers : List ℕ) (sections : ℕ) : Type 0 where
  pub entries : entries_in (field_of t n) pieces numbers ≡ row_list (rings corners ends) t.rule t.g t.upward
  pub count : sections ≡ begun (row_list (rings corners ends) t.rule t.g t.upward)
  pub linked : Linked (field_of t n) sections pieces numbers

-- the sections that stand in the slices, sewn
abbrev pub sewn_in : Field → ℕ → List Float → List ℕ → List (List P)
sewn_in f sections pieces numbers = map (sewn f.g f.stagger) (first_sections (entries_in f pieces numbers) sections)

abbrev pub tatami_of : List Float → List ℕ → Plan → List (List P)
tatami_of corners ends t = tatami (rings corners ends) t.rule t.g t.stagger t.upward

-- what sewing the sections ss says and leaves in the outputs, by the number n
abbrev pub Sewed : ℕ → List (List P) → List Float → List Float → List ℕ → List ℕ → Filled → Type 0
Sewed n ss points points' ends ends' r = (r ≡ filled n ss) × (points' ≡ output n (flat (sewn_points ss)) points) × (ends' ≡ output n (sewn_ends 0 ss) ends)

-- ROOM, unless the outputs have room
abbrev pub sewn_room : List (List P) → List Float → List ℕ → ℕ
sewn_room ss points ends = unless ROOM (sewn_fits ss (length points) (length ends))

-- ---- the row list

abbrev pub list_of : List Float → List ℕ → Plan → List Entry
list_of corners ends t = row_list (rings corners ends) t.rule t.g t.upward

-- the row numbers and section numbers of n pieces
unfoldable pub rows_in : Rows → Bool → ℕ → List ℕ → List ℤ
rows_in w upward n numbers = map (λ j. row_number w upward (get_or numbers j 0)) (upto 0 n)

-- what listing the entries es says and leaves in the outputs, by the number k
abbrev pub Noted : ℕ → List Entry → List Float → List Float → List ℤ → List ℤ → List ℕ → List ℕ → Listed → Type 0
Noted k es ys ys' rows rows' sections sections' r =
    (r ≡ listed k es) × (ys' ≡ output k (listed_floats es) ys) × (rows' ≡ output k (listed_rows es) rows) × (sections' ≡ output k (listed_sections es) sections)

abbrev pub list_room : ℕ → List Float → List ℤ → List ℕ → ℕ
list_room n ys rows sections = unless ROOM (list_fits n (length ys) (length rows) (length sections))
