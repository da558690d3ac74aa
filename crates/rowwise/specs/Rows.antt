-- What a scan of a row, a row and all rows leave: piece i as a block of three floats at 3·i, its row's count at i. Definitions only.
use Rattle.std.specs.Prelude.{ℕ, ◌+◌, ◌*◌, ◌≤◌, ◌≡◌, Bool, true, ◌||◌, List, [], ◌∷◌, ltb, nat_abs, length, Float, Option, Some, None, Result, Ok, Err}
use Rattle.refusal.specs.declared.Refusal.{Refusal}
use Rattle.refusal.specs.declared.Refusal.TheVariants.{Work}
use Rattle.seqs.specs.Lists.{each}
use Rattle.seqs.specs.Slices.{Wrote}
use Rattle.seqs.specs.Records.{Added}
use Rattle.rules.specs.declared.Edge.{Edge}
use Rattle.rules.specs.declared.Piece.{Piece}
use Rattle.rules.specs.PieceTable.{piece_block, row_counts}
use Rattle.sweep.specs.declared.piece.Cut.{Cut}
use Rattle.sweep.specs.declared.piece.Span.{Span}
use Rattle.sweep.specs.declared.piece.Scan.{Scan}
use Rattle.sweep.specs.Swept.{span_block}
use Rattle.sections.specs.Mark.{Laid as LaidOut}
use Rattle.finding.specs.declared.Plan.{Plan}
use Rattle.finding.specs.Stages.{alone}
use Rattle.rules.specs.Fill.{row_list}
use Rattle.geom.specs.Outline.{rings}
use Rattle.finding.specs.declared.find.Found.{Found}
use Rattle.rowwise.specs.Nearest.{sides_behind, left_after}

-- ---- a scan of a row

-- no more windings than sides passed, and no more sides than an outline has
pub record Scanning (c : Cut) (es : List Edge) (s : Scan) (after : Float) : Type 0 where
  pub small : nat_abs s.w ≤ s.at
  pub few : s.at + sides_behind c.y es after ≤ 1024

pub record Next (c : Cut) (es : List Edge) (s : Scan) (after : Float) (p : Span) (t : Scan) (x : Float) : Type 0 where
  pub is : left_after c es s after ≡ p ∷ left_after c es t x
  pub on : s.at + 1 ≤ t.at
  pub scans : Scanning c es t x

-- what a step of the scan found
abbrev pub Stepped : Cut → List Edge → Scan → Float → Option (Span × Scan × Float) → Type 0
Stepped c es s after (Some (p, t, x)) = Next c es s after p t x
Stepped c es s after None = left_after c es s after ≡ []

-- ---- pieces in the lent slices

abbrev pub place : ℕ → ℕ
place i = 3 * i

-- the pieces ps of row y from piece i on
pub record Putting (y : Float) (ps : List Span) (d d' : List Float) (i r : ℕ) : Type 0 where
  pub added : Added place (span_block y) d d' i r ps
  pub few : r ≤ i + 1024

-- the n pieces of all rows, and for each piece its row's count
pub record Laid (n : ℕ) (rows : List (List Piece)) (d d' : List Float) (a a' : List ℕ) : Type 0 where
  pub few : n ≤ 5000000
  pub pieces : Added place piece_block d d' 0 n (each (λ r. r) rows)
  pub counts : Wrote a a' 0 (row_counts 0 rows)

-- ---- the need: of a fill with I kept pieces 4I floats and 6I whole numbers

abbrev pub plain_floats : ℕ → ℕ
plain_floats i = 4 * i

abbrev pub plain_wholes : ℕ → ℕ
plain_wholes i = 6 * i

-- a working slice is too short
abbrev pub plain_short : List Float → List ℕ → Plan → ℕ → ℕ → Bool
plain_short corners ends t floats wholes = let i = length (row_list (rings corners ends) t.rule t.g t.upward) in ltb floats (plain_floats i) || ltb wholes (plain_wholes i)

-- the pieces of all rows stand in slices that are long enough
pub record Holds (corners : List Float) (ends : List ℕ) (t : Plan) (i : ℕ) (d : List Float) (a : List ℕ) : Type 0 where
  pub pieces : i ≡ length (row_list (rings corners ends) t.rule t.g t.upward)
  pub floats : plain_floats i ≤ length d
  pub wholes : plain_wholes i ≤ length a
  pub laid : LaidOut (alone corners ends t) d a i

-- no edge stands in front
abbrev pub FindingOf : List Float → List ℕ → Plan → List Float → List ℕ → Result Found Refusal → Type 0
FindingOf corners ends t floats wholes (Err e) = (e ≡ Work) × (plain_short corners ends t (length floats) (length wholes) ≡ true)
FindingOf corners ends t floats wholes (Ok f) = (f.edges ≡ 0) × Holds corners ends t f.pieces floats wholes

pub record FoundIn (corners : List Float) (ends : List ℕ) (t : Plan) (floats : List Float) (wholes : List ℕ) (r : Result Found Refusal) : Type 0 where
  pub is : FindingOf corners ends t floats wholes r
