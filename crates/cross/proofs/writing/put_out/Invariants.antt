-- `put_out` meets its contract: the cells from t on are still to be written. Assumes nothing.
use mathlib.Core.List.{◌++◌}
use Prim.Native.Nat.{◌+◌, ◌*◌}
use lib.ListN.{take, drop}
use Rattle.seqs.specs.Lists.{upto, each}
use Rattle.seqs.specs.Front.{Front}
use Rattle.geom.specs.Sewing.{flat}
use Rattle.patterns_rules.specs.Patterns.{out_over}
use Rattle.cross.proofs.writing.put_out.Given as goal

abbrev pub invariant-loop-t : goal.invariant-loop-t
invariant-loop-t l = Front l.initial.out l.out (l.k + 4 * l.t) (flat (each (out_over l.badge.grid l.y) (drop l.t (upto l.run.first l.run.many)))) (take l.k l.initial.out ++ flat (each (out_over l.badge.grid l.y) (upto l.run.first l.run.many)))
