-- What is told of a badge and of a row of its cells is a fact: it has one proof at most. Assumes nothing.
use Rattle.std.specs.Prelude.{ℕ, List, Float}
use Rattle.std.specs.Coded.{le_prop}
use Rattle.std.proofs.Math.IntN.{ℤ_set}
use Rattle.geom.specs.declared.point.P.{P}
use Rattle.outlines.specs.Sides.{Gathered}
use Rattle.patterns_rules.specs.declared.Grid.{Grid}
use Rattle.cross.specs.Cells.{Laid}

pub laid_prop : (g : Grid) → IsProp (Laid g)
laid_prop g = hlevel (le_prop)

pub gathered_prop : (rs : List (List P)) (y : Float) (n : ℕ) (s : List Float) → IsProp (Gathered rs y n s)
gathered_prop rs y n s = hlevel (ℤ_set)
