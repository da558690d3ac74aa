-- The invariant: what is left to write stands before place at + i, and behind it what is written.
use Rattle.book.specs.Book.{bytes}
use Rattle.book.proofs.Numbers.{Back}
use Rattle.book.proofs.writing.put_number.Given as goal

abbrev pub invariant-loop-i : goal.invariant-loop-i
invariant-loop-i l = Back l.initial.out l.out l.at l.i (bytes l.i l.rest) (bytes l.k l.v)
