-- A row's place in the cycle. Assumes nothing.
use Rattle.std.proofs.Common.{arith}
use native.Mathlib.Nat.{mod-lt}
use Rattle.sewing.specs.Sewing.{phase_of}
use Rattle.sewing.proofs.Walks.{start_below}
use Rattle.sewing.proofs.piece.phase.Goals as goal

pub overflow_add-result : goal.overflow_add-result
overflow_add-result c = omega (arith, start_below c.args.t.now, c.args.t.now.small)

pub overflow_add-result-else-t : goal.overflow_add-result-else-t
overflow_add-result-else-t c = omega (arith, start_below c.args.t.now, mod-lt c.args.r c.args.t.now.some, c.args.t.now.small)

pub returns-then-t : goal.returns-then-t
unfolding phase_of
returns-then-t c = rw c.if-t.true

pub returns-else-t : goal.returns-else-t
unfolding phase_of
returns-else-t c = rw c.if-t.false
