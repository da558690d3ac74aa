use Rattle.std.proofs.Common.{[]}
use Rattle.sweep.specs.Swept.{swept, numbers}
use Rattle.sweep.specs.LayingLaws.{Laying}
use Rattle.sweep.proofs.rows.all_rows.Given as goal

abbrev pub invariant-loop-r : goal.invariant-loop-r
invariant-loop-r l = Laying l.w l.upward l.rule l.g l.table l.initial.floats l.floats l.initial.wholes l.wholes l.initial.places l.places l.done l.r (swept l.upward l.rule l.g l.table [] l.initial.places (numbers l.w l.upward 0))
