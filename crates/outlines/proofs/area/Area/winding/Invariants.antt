use mathlib.Core.Path.{◌≡◌}
use mathlib.Core.Bool.{true}
use Prim.Native.Nat.{◌/◌, ◌≤◌}
use lib.ListN.{length, drop}
use lib.IntN.{nat_abs, ◌+ℤ◌}
use Rattle.geom.specs.Outline.{points, cut, rings, rising}
use Rattle.outlines.specs.Winding.{winding}
use Rattle.outlines.specs.Heights.{start_of}
use Rattle.outlines.proofs.area.Area.winding.Given as goal

abbrev pub invariant-loop-k : goal.invariant-loop-k
invariant-loop-k l = (nat_abs l.w ≤ l.a) × (rising l.a (drop l.k l.self.outline.ends.now) (length l.self.outline.corners.now / 2) ≡ true) × (l.w +ℤ winding (cut l.a (drop l.k l.self.outline.ends.now) (points l.self.outline.corners.now)) l.p ≡ winding (rings l.self.outline.corners.now l.self.outline.ends.now) l.p) × (l.a ≡ start_of l.self.outline.ends.now l.k)
