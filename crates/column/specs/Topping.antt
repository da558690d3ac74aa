-- The top over a path of stitches. Definitions only.
use Rattle.std.specs.Prelude.{Bool, List}
use Rattle.geom.specs.declared.point.P.{P}
use Rattle.satinrules.specs.declared.Satin.{Satin}
use Rattle.satinrules.specs.Column.{turned_if, styled}

-- what the style makes of it, turned round where the thread is at the far end
unfoldable pub top_of : Bool → Satin → List P → List P
top_of far g ps = turned_if far (styled g.split g.style ps)
