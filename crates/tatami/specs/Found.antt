-- What the finding of the pieces says, in the shape that theorems name it by: cited by theorems alone. Definitions only.
use Rattle.std.specs.Prelude.{ℕ, ◌≡◌, true, List, length, Float}
use Rattle.finding.specs.declared.Plan.{Plan}
use Rattle.finding.specs.Stages.{short, Holds}

-- a working slice is too short, or so many pieces stand behind so many edges
pub data Found : Type 0 where
  Short : Found
  Held : ℕ → ℕ → Found

abbrev pub Finding : List Float → List ℕ → Plan → List Float → List ℕ → Found → Type 0
Finding corners ends t floats wholes Found.Short = short corners ends t (length floats) (length wholes) ≡ true
Finding corners ends t floats wholes (Found.Held e i) = Holds corners ends t e i floats wholes

pub record FoundIn (corners : List Float) (ends : List ℕ) (t : Plan) (floats : List Float) (wholes : List ℕ) (r : Found) : Type 0 where
  pub is : Finding corners ends t floats wholes r
