use mathlib.Core.Path.{◌≡◌}
use Prim.Native.Nat.{◌+◌}
use Rattle.geom.specs.Outline.{points}
use Rattle.outlines.specs.Runs.{lows}
use Rattle.outlines.proofs.winding.one_side.Given as goal

abbrev pub invariant-loop-a : goal.invariant-loop-a
invariant-loop-a l = l.c + lows l.y l.a-iterator ≡ lows l.y (points l.l)
