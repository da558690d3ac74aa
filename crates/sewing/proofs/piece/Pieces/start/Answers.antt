-- Where a row starts. Assumes nothing.
use Rattle.std.proofs.Common.{ne_eqb}
use Rattle.sewing.specs.Sewing.{entry_at}
use Rattle.sewing.proofs.piece.Pieces.start.Goals as goal
use Rattle.sewing.proofs.piece.Pieces.start.Goals.{then-forward, else-forward}

pub returns : goal.returns
unfolding entry_at
returns c = elim c.if-forward.branch [ then-forward w ↦ rw (w.result-is, w.if-forward.true) | else-forward w ↦ rw (w.result-is, ne_eqb _ _ w.if-forward.false) ]
