-- `put_parts` meets its contract: the ends of the parts from j on are to be written from `to` on. Assumes nothing.
use Prim.Native.Nat.{◌-◌}
use mathlib.Core.List.{◌++◌}
use lib.ListN.{take}
use Rattle.seqs.specs.Front.{Front}
use Rattle.geom.specs.Sewing.{flat}
use Rattle.satinrules.specs.Column.{parts_from}
use Rattle.styles.proofs.split.put_parts.Given as goal

abbrev pub invariant-loop-j : goal.invariant-loop-j
invariant-loop-j l = Front l.initial.out l.out l.to (flat (parts_from l.p l.q l.n l.shift l.j (l.n - l.j))) (take l.k l.initial.out ++ flat (parts_from l.p l.q l.n l.shift 1 (l.n - 1)))
