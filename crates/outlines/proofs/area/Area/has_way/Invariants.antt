use mathlib.Core.Path.{◌≡◌}
use Prim.Native.Nat.{◌-◌}
use Rattle.geom.specs.Rings.{rings_of}
use Rattle.outlines.specs.Inside.{steps_inside, segment_inside}
use Rattle.outlines.proofs.area.Area.has_way.Given as goal

abbrev pub invariant-loop-i : goal.invariant-loop-i
invariant-loop-i l = steps_inside (rings_of l.self.outline) l.self.rule l.a l.b l.n l.i (l.n - l.i) ≡ segment_inside (rings_of l.self.outline) l.self.rule l.a l.b l.step
