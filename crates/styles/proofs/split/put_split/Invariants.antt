use Rattle.std.proofs.Common.{◌≡◌, ◌+◌, ◌++◌, take, length}
use Rattle.seqs.specs.Front.{Front}
use Rattle.geom.specs.Outline.{points}
use Rattle.geom.specs.Sewing.{flat}
use Rattle.polyline.specs.Cuts.{Told}
use Rattle.satinrules.specs.Column.{sides_from, split_side, split_long}
use Rattle.styles.proofs.split.put_split.Given as goal

abbrev pub invariant-loop-q : goal.invariant-loop-q
invariant-loop-q l = (l.side + 1 + length l.q-iterator ≡ length (points l.fn.line)) × Front l.fn.out l.out l.to (flat (sides_from (split_side l.max) l.side l.p l.q-iterator)) (take l.k l.fn.out ++ flat (split_long (points l.fn.line) l.max)) × Told l.max l.s
