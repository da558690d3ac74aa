-- A step of a row's scan in the shape that theorems name it by: cited by theorems alone. Definitions only.
use Rattle.std.specs.Prelude.{◌≡◌, List, [], Float}
use Rattle.rules.specs.declared.Edge.{Edge}
use Rattle.sweep.specs.declared.piece.Cut.{Cut}
use Rattle.sweep.specs.declared.piece.Span.{Span}
use Rattle.sweep.specs.declared.piece.Scan.{Scan}
use Rattle.rowwise.specs.Nearest.{left_after}
use Rattle.rowwise.specs.Rows.{Next}

pub data Step : Type 0 where
  Found : Span → Scan → Float → Step
  End : Step

-- what a step of the scan found
abbrev pub Stepped : Cut → List Edge → Scan → Float → Step → Type 0
Stepped c es s after (Step.Found p t x) = Next c es s after p t x
Stepped c es s after Step.End = left_after c es s after ≡ []
