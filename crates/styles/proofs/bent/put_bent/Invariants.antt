use Rattle.std.proofs.Common.{◌≡◌, ◌+◌, ◌++◌, take, length}
use Rattle.seqs.specs.Front.{Front}
use Rattle.geom.specs.Outline.{points}
use Rattle.geom.specs.Sewing.{flat}
use Rattle.satinrules.specs.Column.{sides_from, s_side, s_stitch}
use Rattle.styles.proofs.bent.put_bent.Given as goal

abbrev pub invariant-loop-q : goal.invariant-loop-q
invariant-loop-q l = (l.side + 1 + length l.q-iterator ≡ length (points l.fn.line)) × Front l.fn.out l.out l.to (flat (sides_from s_side l.side l.p l.q-iterator)) (take l.k l.fn.out ++ flat (s_stitch (points l.fn.line)))
