use mathlib.Core.Path.{◌≡◌}
use mathlib.Core.Bool.{true}
use Prim.Native.Nat.{◌*◌, ◌/◌, ◌≤◌}
use lib.ListN.{length, drop}
use Rattle.seqs.specs.Wrote.{Run}
use Rattle.geom.specs.Outline.{points, cut, rings, rising}
use Rattle.outlines.specs.Sides.{sides}
use Rattle.outlines.proofs.sides.gather.Given as goal

abbrev pub invariant-loop-e : goal.invariant-loop-e
invariant-loop-e l = (rising l.a (drop l.e-index l.o.ends.now) (length l.o.corners.now / 2) ≡ true) × (l.n ≤ 4 * l.a) × Run l.initial.out l.out 0 l.n (sides l.y (cut l.a (drop l.e-index l.o.ends.now) (points l.o.corners.now))) (sides l.y (rings l.o.corners.now l.o.ends.now))
