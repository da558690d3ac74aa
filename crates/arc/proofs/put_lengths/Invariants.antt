use Rattle.std.proofs.Common.{◌++◌, take}
use Rattle.seqs.specs.Front.{Front}
use Rattle.geom.specs.Outline.{points}
use Rattle.satinrules.specs.Arc.{lengths_from, lengths}
use Rattle.arc.proofs.put_lengths.Given as goal

abbrev pub invariant-loop-q : goal.invariant-loop-q
invariant-loop-q l = Front l.fn.out l.out l.to (lengths_from l.s l.p l.q-iterator) (take l.k l.fn.out ++ lengths (points l.fn.pts))
