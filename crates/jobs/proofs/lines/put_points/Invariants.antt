-- Up to point i the lines are put. Assumes nothing.
use Rattle.jobs.proofs.Printed.{Points}
use Rattle.jobs.proofs.lines.put_points.Given as goal

abbrev pub invariant-loop-i : goal.invariant-loop-i
invariant-loop-i l = Points l.points l.section l.from l.to l.at l.initial.out l.out l.k l.i
