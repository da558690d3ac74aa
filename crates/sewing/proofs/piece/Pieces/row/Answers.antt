-- A piece's row. Assumes nothing.
use Rattle.sewing.specs.Sewing.{entry_at, row_of}
use Rattle.sewing.proofs.Walks.{offset_is}
use Rattle.sewing.proofs.piece.Pieces.row.Goals as goal

pub returns : goal.returns
unfolding entry_at row_of
returns c =
    let t = c.args.self.thread.now in
    let u = offset_is t _ _ c.phase-p.ensures in
    let v = rw (← c.of_u64.ensures, ← c.of_u64-2.ensures) at u in
    rw (t.margin_is, v) at c.row_of.ensures
