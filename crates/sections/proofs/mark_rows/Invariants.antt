use Rattle.geom.specs.Rings.{rings_of}
use Rattle.sections.specs.AllRows.{Marking}
use Rattle.sections.proofs.mark_rows.Given as goal

abbrev pub invariant-loop-r : goal.invariant-loop-r
invariant-loop-r l = Marking (rings_of l.area.outline) l.area.rule l.g l.pieces l.initial.wholes l.n l.rows l.wholes l.b0 l.r0 l.r l.section
