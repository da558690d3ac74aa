use lib.ListN.{drop}
use Rattle.seqs.specs.Front.{Front}
use Rattle.salvage.specs.Salvage.{dropped_places, dropped_reasons}
use Rattle.salvage.proofs.writing.put_dropped.Given as goal

abbrev pub invariant-loop-i : goal.invariant-loop-i
invariant-loop-i l = Front l.initial.places l.places l.k (dropped_places l.i (drop l.i l.marks)) (dropped_places 0 l.marks) × Front l.initial.reasons l.reasons l.k (dropped_reasons (drop l.i l.marks)) (dropped_reasons l.marks)
