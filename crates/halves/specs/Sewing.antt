-- The answers of both halves once the rails are accepted, and the top over pairs that stand in the working slice. Definitions only.
use Rattle.std.specs.Prelude.{ℕ, ◌*◌, Bool, List, take, Float}
use Rattle.geom.specs.declared.point.P.{P}
use Rattle.geom.specs.Outline.{points}
use Rattle.satinrules.specs.declared.Satin.{Satin}
use Rattle.satinrules.specs.Column.{stitches, underlay, top}
use Rattle.satinrules.specs.Calls.{rails_of, underlay_steps, top_steps, passed}
use Rattle.passes.specs.Threads.{pairs_in}
use Rattle.column.specs.Topping.{top_of}

unfoldable pub underlay_passed : List Float → List Float → List Float → Satin → ℕ → ℕ → ℕ
underlay_passed a b sync g work room = passed (rails_of a b sync) (underlay_steps g) (underlay (rails_of a b sync) g) work room

unfoldable pub top_passed : List Float → List Float → List Float → Satin → Bool → ℕ → ℕ → ℕ
top_passed a b sync g far work room = passed (rails_of a b sync) (top_steps g) (top far (rails_of a b sync) g) work room

-- the top over the t pairs at the front of w
abbrev pub top_over : Bool → Satin → ℕ → List Float → List P
top_over far g t w = top_of far g (stitches g (pairs_in (points (take (4 * t) w))))
