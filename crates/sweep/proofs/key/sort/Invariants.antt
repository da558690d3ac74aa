use Rattle.seqs.specs.Insert.{Sorting}
use Rattle.sweep.specs.Swept.{by}
use Rattle.sweep.proofs.key.sort.Given as goal

abbrev pub invariant-loop-n : goal.invariant-loop-n
invariant-loop-n l = Sorting (by l.key l.table) l.initial.l l.l l.n
