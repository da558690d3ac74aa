-- What the plain finding of the pieces says, in the shape that theorems name it by: cited by theorems alone. Definitions only.
use Rattle.std.specs.Prelude.{ℕ, ◌≡◌, true, List, length, Float}
use Rattle.finding.specs.declared.Plan.{Plan}
use Rattle.rowwise.specs.Rows.{plain_short, Holds}

-- a working slice is too short, or so many pieces stand in them
pub data Found : Type 0 where
  Short : Found
  Held : ℕ → Found

abbrev pub FindingOf : List Float → List ℕ → Plan → List Float → List ℕ → Found → Type 0
FindingOf corners ends t floats wholes Found.Short = plain_short corners ends t (length floats) (length wholes) ≡ true
FindingOf corners ends t floats wholes (Found.Held i) = Holds corners ends t i floats wholes

pub record FoundIn (corners : List Float) (ends : List ℕ) (t : Plan) (floats : List Float) (wholes : List ℕ) (r : Found) : Type 0 where
  pub is : FindingOf corners ends t floats wholes r
