-- The first floats, one by one. Assumes nothing.
use lib.ListN.{take, drop}
use Rattle.seqs.specs.Front.{Front}
use Rattle.tatami.proofs.list.put_floats.Given as goal

abbrev pub invariant-loop-i : goal.invariant-loop-i
invariant-loop-i l = Front l.initial.out l.out l.i (drop l.i (take l.n l.from)) (take l.n l.from)
