-- What the gate says, in the shape that theorems name it by: cited by theorems alone. Definitions only.
use Rattle.std.specs.Prelude.{ℕ, ◌≤◌, ◌≡◌, List, Float}
use Rattle.refusal.specs.Refusal.{DONE}
use Rattle.geom.specs.Outline.{rings}
use Rattle.rules.specs.declared.Settings.{Settings}
use Rattle.rules.specs.Fill.{edges, gate}
use Rattle.rules.specs.Accepted.{Accepted}
use Rattle.edges.specs.declared.rows.Rows.{Rows}
use Rattle.edges.specs.Span.{rows_of}

-- a number of document 01, or the rows
pub data Way : Type 0 where
  Refused : ℕ → Way
  Open : Rows → Way

-- one of 1 to 5, or the rows of an accepted fill
unfoldable pub Gated : List Float → List ℕ → Settings → ℕ → Way → Type 0
Gated corners ends g stagger (Way.Refused n) = (gate corners ends g stagger DONE ≡ n) × (1 ≤ n) × (n ≤ 5)
Gated corners ends g stagger (Way.Open w) = Accepted corners ends g stagger × (w ≡ rows_of g (edges g (rings corners ends)))
