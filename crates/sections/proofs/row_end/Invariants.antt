use Rattle.std.specs.Prelude.{◌≡◌, ◌+◌}
use Rattle.sections.specs.Mark.{row_end}
use Rattle.sections.proofs.row_end.Given as goal

abbrev pub invariant-loop-k : goal.invariant-loop-k
invariant-loop-k l = row_end l.wholes l.n l.i l.r ≡ row_end l.wholes l.n (l.i + l.k) l.r
