use native.Mathlib.Omega.{arith}
use borrow.Author.Rules.{rules}
use Rattle.passes.proofs.threads.place.Goals as goal

pub returns-then-back : goal.returns-then-back
returns-then-back c = (rw c.if-back.true, omega arith)

pub returns-else-back : goal.returns-else-back
returns-else-back c = (rw c.if-back.false, search rules)
