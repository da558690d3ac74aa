use Rattle.std.proofs.Common.{length, ◌≡◌}
use Rattle.edges.specs.Sides.{left, Rising}
use Rattle.edges.proofs.sides.SidesIterator.next.Given as goal

abbrev pub invariant-loop-side : goal.invariant-loop-side
invariant-loop-side l = (left l.self-inside ≡ l.fn.self) × Rising l.self-inside

abbrev pub decreases-loop-side : goal.decreases-loop-side
decreases-loop-side l = length l.self-inside.ends.now
