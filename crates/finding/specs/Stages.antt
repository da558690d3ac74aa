-- What the gate and the finding of the pieces hand on. Definitions only.
use Rattle.std.specs.Prelude.{ℕ, ◌*◌, ◌≤◌, ◌≡◌, Bool, true, ◌||◌, List, map, ltb, length, drop, replicate, Float, Result, Ok, Err}
use Rattle.refusal.specs.declared.Refusal.{Refusal}
use Rattle.refusal.specs.declared.Refusal.TheVariants.{Work}
use Rattle.refusal.specs.Refusal.{DONE, number}
use Rattle.geom.specs.Outline.{rings}
use Rattle.rules.specs.declared.Settings.{Settings}
use Rattle.rules.specs.declared.Piece.{Piece}
use Rattle.rules.specs.Fill.{edges, row_numbers, pieces_of, met, row_list, gate, need_floats, need_wholes}
use Rattle.rules.specs.Accepted.{Accepted}
use Rattle.edges.specs.declared.rows.Rows.{Rows}
use Rattle.edges.specs.Span.{rows_of}
use Rattle.outlines.specs.declared.rule.FillRule.{FillRule}
use Rattle.sections.specs.Mark.{Laid}
use Rattle.finding.specs.declared.Plan.{Plan}
use Rattle.finding.specs.declared.find.Found.{Found}

-- the gate: one of 1 to 5, or the rows of an accepted fill
unfoldable pub Gated : List Float → List ℕ → Settings → ℕ → Result Rows Refusal → Type 0
Gated corners ends g stagger (Err e) = (gate corners ends g stagger DONE ≡ number e) × (1 ≤ number e) × (number e ≤ 5)
Gated corners ends g stagger (Ok w) = Accepted corners ends g stagger × (w ≡ rows_of g (edges g (rings corners ends)))

-- and the plan of a fill that passes it
pub record Plans (corners : List Float) (ends : List ℕ) (rule : FillRule) (g : Settings) (stagger : ℕ) (upward : Bool) (t : Plan) : Type 0 where
  pub corners_are : t.outline.corners.now ≡ corners
  pub ends_are : t.outline.ends.now ≡ ends
  pub ruled : t.rule ≡ rule
  pub set : t.g ≡ g
  pub staggered : t.stagger ≡ stagger
  pub up : t.upward ≡ upward

unfoldable pub Planned : List Float → List ℕ → FillRule → Settings → ℕ → Bool → Result Plan Refusal → Type 0
Planned corners ends rule g stagger upward (Err e) = (gate corners ends g stagger DONE ≡ number e) × (1 ≤ number e) × (number e ≤ 5)
Planned corners ends rule g stagger upward (Ok t) = Plans corners ends rule g stagger upward t

-- a plan that has passed it
pub record Passed (corners : List Float) (ends : List ℕ) (t : Plan) : Type 0 where
  pub accepted : Accepted corners ends t.g t.stagger
  pub rows : t.rows ≡ rows_of t.g (edges t.g (rings corners ends))

-- its rows' pieces, each row taken alone, in the order met
abbrev pub alone : List Float → List ℕ → Plan → List (List Piece)
alone corners ends t = map (pieces_of t.rule t.g (edges t.g (rings corners ends))) (met t.upward (row_numbers t.g (edges t.g (rings corners ends))))

-- a working slice is too short
abbrev pub short : List Float → List ℕ → Plan → ℕ → ℕ → Bool
short corners ends t floats wholes =
    let e = length (edges t.g (rings corners ends)) in
    let i = length (row_list (rings corners ends) t.rule t.g t.upward) in
    ltb floats (need_floats e i) || ltb wholes (need_wholes e i)

-- the pieces of all rows stand behind e edges in slices that are long enough
pub record Holds (corners : List Float) (ends : List ℕ) (t : Plan) (e i : ℕ) (d : List Float) (a : List ℕ) : Type 0 where
  pub count : e ≡ length (edges t.g (rings corners ends))
  pub pieces : i ≡ length (row_list (rings corners ends) t.rule t.g t.upward)
  pub floats : need_floats e i ≤ length d
  pub wholes : need_wholes e i ≤ length a
  pub laid : Laid (alone corners ends t) (drop (6 * e) d) (drop (4 * e) a) i

abbrev pub Finding : List Float → List ℕ → Plan → List Float → List ℕ → Result Found Refusal → Type 0
Finding corners ends t floats wholes (Err e) = (e ≡ Work) × (short corners ends t (length floats) (length wholes) ≡ true)
Finding corners ends t floats wholes (Ok f) = Holds corners ends t f.edges f.pieces floats wholes

pub record FoundIn (corners : List Float) (ends : List ℕ) (t : Plan) (floats : List Float) (wholes : List ℕ) (r : Result Found Refusal) : Type 0 where
  pub is : Finding corners ends t floats wholes r

-- d' is d made all zero
pub record Zeroed {A : Type 0} (z : A) (d d' : List A) : Type 0 where
  pub is : d' ≡ replicate (length d) z
