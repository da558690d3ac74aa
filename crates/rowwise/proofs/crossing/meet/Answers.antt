use Rattle.std.proofs.Common.{arith, ap, Option, length}
use Rattle.rules.specs.declared.Edge.{Edge}
use Rattle.edges.specs.Table.{found}
use Rattle.rowwise.specs.NearestLaws.{side_meets, side_ended, side_later}
use Rattle.rowwise.proofs.crossing.meet.Goals as goal

pub returns-in_default : goal.returns-in_default
returns-in_default c = record { is = rw c.in_default.is; small = c.requires.small; few = omega arith }

pub returns-then-q-e : goal.returns-then-q-e
returns-then-q-e c = record { is = side_meets c.args.q c.args.m _ c.in-Some.is c.if-e-q.true c.if-q-e.true c.near.ensures.is; small = c.near.ensures.small; few = omega (arith, c.near.ensures.few, ap (λ (s : Option Edge). length (found s)) c.in-Some.is) }

pub returns-else-q-e : goal.returns-else-q-e
returns-else-q-e c = record { is = side_ended c.args.q c.args.m _ c.in-Some.is c.if-e-q.true c.if-q-e.false; small = c.requires.small; few = omega arith }

pub returns-else-e-q : goal.returns-else-e-q
returns-else-e-q c = record { is = side_later c.args.q c.args.m _ c.in-Some.is c.if-e-q.false; small = c.requires.small; few = omega arith }
