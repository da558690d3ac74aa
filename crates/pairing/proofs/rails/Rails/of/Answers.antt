-- A rail's length is the last of its running lengths. Assumes nothing.
use Rattle.std.proofs.Common.{arith}
use Rattle.pairing.specs.StoreLaws.{last_a, last_b, some_a_lem, some_b_lem}
use Rattle.pairing.proofs.rails.Rails.of.Goals as goal

pub overflow_sub-result : goal.overflow_sub-result
overflow_sub-result c = omega (arith, some_a_lem c.requires)

pub bounds-lengths-m : goal.bounds-lengths-m
bounds-lengths-m c = omega (arith, some_a_lem c.requires, c.requires.room)

pub overflow_sub-result-2 : goal.overflow_sub-result-2
overflow_sub-result-2 c = omega (arith, some_b_lem c.requires)

pub bounds-lengths-m-2 : goal.bounds-lengths-m-2
bounds-lengths-m-2 c = omega (arith, some_b_lem c.requires, c.requires.room)

pub returns-clause-ended : goal.returns-clause-ended
returns-clause-ended c = record { at_a = last_a c.requires; at_b = last_b c.requires }
