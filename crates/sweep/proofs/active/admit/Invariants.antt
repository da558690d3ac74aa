use mathlib.Core.Path.{◌≡◌}
use mathlib.Core.List.{◌++◌}
use lib.ListN.{take, drop}
use Rattle.seqs.specs.Lists.{sift, take_while, drop_while}
use Rattle.seqs.specs.Move.{Move}
use Rattle.sweep.specs.Swept.{enters, stays}
use Rattle.sweep.proofs.active.admit.Given as goal

abbrev pub invariant-loop-i : goal.invariant-loop-i
invariant-loop-i l = Move l.initial.l l.l l.i l.j (sift (stays l.upward l.table l.y) (take_while (enters l.upward l.table l.y) (drop l.i l.initial.l))) (take l.m l.initial.l ++ sift (stays l.upward l.table l.y) (take_while (enters l.upward l.table l.y) (drop l.next l.initial.l))) × (drop_while (enters l.upward l.table l.y) (drop l.i l.initial.l) ≡ drop_while (enters l.upward l.table l.y) (drop l.next l.initial.l))
