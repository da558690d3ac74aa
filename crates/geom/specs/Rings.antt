-- The rings of an outline that is lent. Definitions only.
use Rattle.std.specs.Prelude.{List}
use Rattle.geom.specs.declared.point.P.{P}
use Rattle.geom.specs.declared.outline.Outline.{Outline}
use Rattle.geom.specs.Outline.{rings}

abbrev pub rings_of : Outline → List (List P)
rings_of o = rings o.corners.now o.ends.now
