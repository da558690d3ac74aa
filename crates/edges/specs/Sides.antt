-- The sides of an outline's rings that are left, as they are walked. Definitions only.
use Rattle.std.specs.Prelude.{◌≡◌, ◌/◌, true, List, [], ◌∷◌, ◌++◌, length, Option, Some, None}
use Rattle.seqs.specs.Lists.{each}
use Rattle.geom.specs.declared.point.P.{P}
use Rattle.geom.specs.Outline.{points, cut, rising}
use Rattle.rules.specs.declared.Settings.{Settings}
use Rattle.rules.specs.Fill.{sides_to, sides, turned}
use Rattle.edges.specs.declared.sides.RingSides.TheInside as ring
use Rattle.edges.specs.declared.sides.Sides.TheInside as outline

-- the sides of all rings, turned
unfoldable pub all_sides : Settings → List (List P) → List (P × P)
all_sides g rings = each (λ ring. sides (turned g ring)) rings

-- from the corner a of a ring that began at z, with these corners behind it
abbrev pub from_left : Settings → Option (P × P) → List P → List (P × P)
from_left g (Some f) rest = sides_to f.0 (f.1 ∷ turned g rest)
from_left g None rest = []

abbrev pub ring_left : ring.Inside → List (P × P)
ring_left s = from_left s.g s.from s.rest

abbrev pub left : outline.Inside → List (P × P)
left s = s.ring ++ all_sides s.g (cut s.begun s.ends.now (points s.outline.corners.now))

abbrev pub Rising : outline.Inside → Type 0
Rising s = rising s.begun s.ends.now (length s.outline.corners.now / 2) ≡ true
