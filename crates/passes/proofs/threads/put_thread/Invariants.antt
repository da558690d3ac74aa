-- `put_thread` meets its contract: the points of the pairs from r on are to be written from `to` on. Assumes nothing.
use mathlib.Core.List.{◌++◌}
use lib.ListN.{take, drop}
use Rattle.seqs.specs.Front.{Front}
use Rattle.geom.specs.Sewing.{flat}
use Rattle.passes.specs.ThreadsLaws.{pass_over}
use Rattle.passes.proofs.threads.put_thread.Given as goal

abbrev pub invariant-loop-r : goal.invariant-loop-r
invariant-loop-r l = Front l.initial.out l.out l.to (flat (drop l.r (pass_over l.s l.thread l.back))) (take l.k l.initial.out ++ flat (pass_over l.s l.thread l.back))
