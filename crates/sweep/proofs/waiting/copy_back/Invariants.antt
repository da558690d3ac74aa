use Rattle.std.proofs.Common.{◌≡◌, take}
use Rattle.sweep.proofs.waiting.copy_back.Given as goal

abbrev pub invariant-loop-i : goal.invariant-loop-i
invariant-loop-i l = take l.i l.l ≡ take l.i l.from
