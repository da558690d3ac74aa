use lib.ListN.{take, drop}
use Rattle.seqs.specs.Lists.{sift}
use Rattle.seqs.specs.Move.{Move}
use Rattle.sweep.specs.Swept.{stays}
use Rattle.sweep.proofs.active.retain.Given as goal

abbrev pub invariant-loop-i : goal.invariant-loop-i
invariant-loop-i l = Move l.initial.l l.l l.i l.j (sift (stays l.upward l.table l.y) (drop l.i (take l.m l.initial.l))) (sift (stays l.upward l.table l.y) (take l.m l.initial.l))
