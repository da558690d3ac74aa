use Rattle.seqs.specs.Adding.{Adding}
use Rattle.sweep.specs.Swept.{cuts, span_block, block_place}
use Rattle.sweep.proofs.piece.put_pieces.Given as goal

abbrev pub invariant-loop-p : goal.invariant-loop-p
invariant-loop-p l =
    (goal.iterator-loop-p).can_next l.p-iterator × (goal.iterator-loop-p).is_finite l.p-iterator
    × Adding block_place (span_block l.c.y) l.initial.floats l.floats l.i l.n l.p-iterator (cuts l.c l.fn.table l.places)
