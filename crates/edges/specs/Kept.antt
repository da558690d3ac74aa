-- A side as an edge or dropped, in the shape that theorems name it by: cited by theorems alone. Definitions only.
use Rattle.std.specs.Prelude.{List, [], ◌∷◌}
use Rattle.rules.specs.declared.Edge.{Edge}

pub data KeptSide : Type 0 where
  Kept : Edge → KeptSide
  Dropped : KeptSide

-- what a side gives the list of edges
abbrev pub found : KeptSide → List Edge
found (KeptSide.Kept e) = e ∷ []
found KeptSide.Dropped = []
