use lib.ListN.{drop}
use Rattle.seqs.specs.Front.{Front}
use Rattle.satin.proofs.slices.copy.Given as goal

abbrev pub invariant-loop-i : goal.invariant-loop-i
invariant-loop-i l = Front l.initial.out l.out l.i (drop l.i l.s) l.s
