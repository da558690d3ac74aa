-- `put_way` meets its contract: the needle stands at cut i - 1, and the records of the cuts from i on are to be written from k on. Assumes nothing.
use mathlib.Core.Path.{◌≡◌}
use mathlib.Core.List.{◌++◌}
use Prim.Native.Nat.{◌+◌, ◌-◌}
use lib.ListN.{take}
use Rattle.seqs.specs.Front.{Front}
use Rattle.dst.specs.Thread.{move, cut, cuts_from, way, records_from}
use Rattle.dst.specs.Lifted.{standing}
use Rattle.dst.proofs.way.put_way.Given as goal

abbrev pub invariant-loop-i : goal.invariant-loop-i
invariant-loop-i l = (standing l.from ≡ cut (standing l.a) (move (standing l.a) (standing l.b)) l.n (l.i - 1)) × Front l.initial.out l.out l.k (records_from (standing l.from) (cuts_from (standing l.a) (move (standing l.a) (standing l.b)) l.n l.i (l.n + 1 - l.i))) (take l.at l.initial.out ++ records_from (standing l.a) (way (standing l.a) (standing l.b)))
