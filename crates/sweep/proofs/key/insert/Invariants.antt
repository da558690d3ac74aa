use lib.ListN.{get_or}
use Rattle.seqs.specs.Insert.{Carried}
use Rattle.sweep.specs.Swept.{by}
use Rattle.sweep.proofs.key.insert.Given as goal

abbrev pub invariant-loop-j : goal.invariant-loop-j
invariant-loop-j l = Carried (by l.key l.table) l.initial.l l.l l.n l.j (get_or l.initial.l l.n 0)
