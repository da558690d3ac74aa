use mathlib.Core.Path.{ap}
use lib.Ieee.{of_bits}
use borrow.Author.Tests.{eq-eqb, ne_eqb}
use Rattle.satinrules.specs.declared.Pair.{Pair}
use Rattle.satinrules.specs.Column.{middle}
use Rattle.passes.specs.Threads.{point_of}
use Rattle.passes.proofs.threads.point_of.Goals as goal

pub returns-then-j-eq1 : goal.returns-then-j-eq1
unfolding point_of
returns-then-j-eq1 c = rw (c.in-Alternate.is, eq-eqb _ _ c.if-j-eq1.true) (ap (λ (q : Pair). q.b) c.inset-then-j-eq1.ensures)

pub returns-in-Middle : goal.returns-in-Middle
unfolding middle of_bits point_of
returns-in-Middle c = rw c.in-Middle.is c.lerp.ensures

pub returns-in-SideA : goal.returns-in-SideA
unfolding point_of
returns-in-SideA c = rw c.in-SideA.is (ap (λ (q : Pair). q.a) c.inset.ensures)

pub returns-in-SideB : goal.returns-in-SideB
unfolding point_of
returns-in-SideB c = rw c.in-SideB.is (ap (λ (q : Pair). q.b) c.inset-in-SideB.ensures)

pub returns-else-j-eq1 : goal.returns-else-j-eq1
unfolding point_of
returns-else-j-eq1 c = rw (c.in-Alternate.is, ne_eqb _ _ c.if-j-eq1.false) (ap (λ (q : Pair). q.a) c.inset-else-j-eq1.ensures)
