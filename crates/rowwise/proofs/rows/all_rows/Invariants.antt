use Rattle.rowwise.specs.RowLaws.{Rowing}
use Rattle.rowwise.proofs.rows.all_rows.Given as goal

abbrev pub invariant-loop-r : goal.invariant-loop-r
invariant-loop-r l = Rowing l.t.outline.corners.now l.t.outline.ends.now l.t l.initial.floats l.floats l.initial.wholes l.wholes l.i l.r
