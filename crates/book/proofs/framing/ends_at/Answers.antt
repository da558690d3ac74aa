use native.Mathlib.Omega.{arith}
use lib.ListN.{length, drop, length-drop}
use borrow.Author.Tests.{le-leb, lt-leb}
use Rattle.book.specs.Book.{ended}
use Rattle.book.specs.BookLaws.{number_here}
use Rattle.book.proofs.framing.ends_at.Goals as goal

pub returns-then-s-at-lt2 : goal.returns-then-s-at-lt2
unfolding ended
returns-then-s-at-lt2 c = rw (lt-leb 2 (length (drop c.args.at c.args.s.now)) (omega (arith, length-drop c.args.at c.args.s.now)))

pub returns : goal.returns
unfolding ended
returns c =
    let s = c.args.s.now in
    let at = c.args.at in
    rw (le-leb 2 (length (drop at s)) (omega (arith, length-drop at s)), c.number_at.ensures.0, number_here s at 2)
