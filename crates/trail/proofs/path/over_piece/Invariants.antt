-- `over_piece` meets its contract: the ends of the steps from i on are to come, and then the corner. Assumes nothing.
use mathlib.Core.Path.{◌≡◌}
use mathlib.Core.List.{[], ◌∷◌, ◌++◌}
use Prim.Native.Nat.{◌-◌}
use Rattle.geom.specs.Rings.{rings_of}
use Rattle.outlines.specs.Inside.{point_inside}
use Rattle.polyline.specs.Line.{steps_from, piece}
use Rattle.trail.specs.Trail.{on_to}
use Rattle.trail.specs.Parts.{Going}
use Rattle.trail.proofs.path.over_piece.Given as goal

abbrev pub invariant-loop-i : goal.invariant-loop-i
invariant-loop-i l = Going (on_to (rings_of l.area.outline) l.area.rule) l.initial.pen l.pen l.initial.out l.out l.initial.stops l.stops (steps_from l.a l.b l.n l.i (l.n - l.i) ++ (l.b ∷ [])) (piece l.a l.b l.len) × (l.pen.inside ≡ point_inside (rings_of l.area.outline) l.area.rule l.pen.at)
