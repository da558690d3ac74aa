use mathlib.Core.List.{◌++◌}
use lib.ListN.{take}
use Rattle.seqs.specs.Front.{Front}
use Rattle.geom.specs.Outline.{points}
use Rattle.geom.specs.Sewing.{flat}
use Rattle.passes.proofs.top.put_all.Given as goal

abbrev pub invariant-loop-p : goal.invariant-loop-p
invariant-loop-p l = Front l.initial.out l.out l.to (flat l.p-iterator) (take l.k l.initial.out ++ flat (points l.fn.line))
