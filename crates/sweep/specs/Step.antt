-- A step of a row's scan in the shape that theorems name it by: cited by theorems alone. Definitions only.
use Rattle.std.specs.Prelude.{ℕ, ◌≡◌, List, []}
use Rattle.rules.specs.declared.Edge.{Edge}
use Rattle.sweep.specs.declared.piece.Cut.{Cut}
use Rattle.sweep.specs.declared.piece.Span.{Span}
use Rattle.sweep.specs.declared.piece.Scan.{Scan}
use Rattle.sweep.specs.Swept.{rest_of, Next}

pub data Step : Type 0 where
  Found : Span → Scan → Step
  End : Step

-- what a step of the scan found
abbrev pub Stepped : Cut → List Edge → List ℕ → Scan → Step → Type 0
Stepped c es l s (Step.Found p t) = Next c es l s p t
Stepped c es l s Step.End = rest_of c es l s ≡ []
