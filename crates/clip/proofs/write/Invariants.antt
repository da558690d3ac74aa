-- `write` meets its contract: the runs of the points that are left are still to be written. Assumes nothing.
use mathlib.Core.Path.{◌≡◌}
use Prim.Native.Nat.{◌+◌, ◌*◌, ◌≤◌}
use lib.ListN.{length}
use Rattle.seqs.specs.Front.{Front}
use Rattle.geom.specs.Outline.{points}
use Rattle.geom.specs.Rings.{rings_of}
use Rattle.geom.specs.Sewing.{flat}
use Rattle.outlines.specs.Inside.{point_inside}
use Rattle.rules.specs.Calls.{sewn_points, sewn_ends}
use Rattle.clip.specs.Clip.{clipped_in, points_from, ends_from}
use Rattle.clip.proofs.write.Given as goal

abbrev pub invariant-loop-q : goal.invariant-loop-q
invariant-loop-q l = (l.s + length l.q-iterator ≤ length (points l.line)) × (l.at + 2 * length l.q-iterator ≤ 2 * length (points l.line)) × (l.was ≡ point_inside (rings_of l.area.outline) l.area.rule l.p) × Front l.initial.out l.out (2 * l.at) (flat (points_from (rings_of l.area.outline) l.area.rule l.on l.p l.q-iterator)) (flat (sewn_points (clipped_in l.line l.area))) × Front l.initial.stops l.stops l.s (ends_from (rings_of l.area.outline) l.area.rule l.on l.at l.p l.q-iterator) (sewn_ends 0 (clipped_in l.line l.area))
