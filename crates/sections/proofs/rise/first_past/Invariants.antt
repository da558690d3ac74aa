use Rattle.std.specs.Prelude.{◌-◌}
use Rattle.sections.specs.RiseLaws.{Between}
use Rattle.sections.proofs.rise.first_past.Given as goal

abbrev pub invariant-loop-lo : goal.invariant-loop-lo
invariant-loop-lo l = Between l.pieces l.x l.from l.to l.lo l.hi

abbrev pub decreases-loop-lo : goal.decreases-loop-lo
decreases-loop-lo l = l.hi - l.lo
