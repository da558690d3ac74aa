-- `first_open` meets its contract: the ways from i on are still to be tried. Assumes nothing.
use mathlib.Core.Path.{◌≡◌}
use lib.ListN.{take, drop}
use Rattle.geom.specs.Rings.{rings_of}
use Rattle.meander_rules.specs.Meander.{points_of, link_ok, open_way}
use Rattle.wander.proofs.walk.first_open.Given as goal

abbrev pub invariant-loop-k : goal.invariant-loop-k
invariant-loop-k l = open_way (link_ok (rings_of l.ground.area.outline) l.ground.area.rule l.ground.grid) (take (points_of l.ground.grid) l.w) l.here (drop l.k-index l.ways) ≡ open_way (link_ok (rings_of l.ground.area.outline) l.ground.area.rule l.ground.grid) (take (points_of l.ground.grid) l.w) l.here l.ways
