use Rattle.std.proofs.Common.{◌≡◌, take}
use Rattle.seqs.specs.Lists.{upto}
use Rattle.sweep.proofs.waiting.count_up.Given as goal

abbrev pub invariant-loop-i : goal.invariant-loop-i
invariant-loop-i l = take l.i l.l ≡ upto 0 l.i
