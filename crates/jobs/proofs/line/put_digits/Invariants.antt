-- The invariant: what is left to write stands before place at + i, and behind it what is written.
use Rattle.jobs.specs.Text.{digits}
use Rattle.jobs.proofs.Words.{Back}
use Rattle.jobs.proofs.line.put_digits.Given as goal

abbrev pub invariant-loop-i : goal.invariant-loop-i
invariant-loop-i l = Back l.initial.out l.out l.at l.i (digits l.base l.i l.rest) (digits l.base l.k l.n)
