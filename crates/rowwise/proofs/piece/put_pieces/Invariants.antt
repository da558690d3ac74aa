use Rattle.geom.specs.Rings.{rings_of}
use Rattle.rules.specs.Fill.{edges}
use Rattle.seqs.specs.Adding.{Adding}
use Rattle.sweep.specs.Swept.{span_block}
use Rattle.rowwise.specs.Nearest.{row_cuts}
use Rattle.rowwise.specs.Rows.{place}
use Rattle.rowwise.proofs.piece.put_pieces.Given as goal

abbrev pub invariant-loop-p : goal.invariant-loop-p
invariant-loop-p l =
    (goal.iterator-loop-p).can_next l.p-iterator × (goal.iterator-loop-p).is_finite l.p-iterator
    × Adding place (span_block l.c.y) l.initial.floats l.floats l.i l.n l.p-iterator (row_cuts l.c (edges l.fn.g (rings_of l.fn.o)))
