use Rattle.geom.specs.Outline.{points}
use Rattle.outlines.proofs.Blocks.{Tried}
use Rattle.outlines.proofs.heights.height_of.Given as goal

abbrev pub invariant-loop-a : goal.invariant-loop-a
invariant-loop-a l = Tried (points l.l) l.a-iterator l.lo l.hi l.right
