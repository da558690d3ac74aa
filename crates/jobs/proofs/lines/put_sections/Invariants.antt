-- Up to section s the lines are put. Assumes nothing.
use Prim.Native.Nat.{◌≤◌}
use lib.ListN.{length}
use Rattle.jobs.proofs.Printed.{Sections}
use Rattle.jobs.proofs.lines.put_sections.Given as goal

abbrev pub invariant-loop-s : goal.invariant-loop-s
invariant-loop-s l = (room : l.sections ≤ length l.stops) × Sections l.points l.stops l.sections l.at l.initial.out room l.out l.k l.from l.s
