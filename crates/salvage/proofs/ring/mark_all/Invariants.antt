use mathlib.Core.List.{map}
use lib.ListN.{drop}
use Rattle.seqs.specs.Front.{Front}
use Rattle.salvage.specs.Ring.{few}
use Rattle.salvage.proofs.ring.mark_all.Given as goal

abbrev pub invariant-loop-m : goal.invariant-loop-m
invariant-loop-m l = Front l.initial.marks l.marks l.m-index (map few (drop l.m-index l.initial.marks)) (map few l.initial.marks)
