use Rattle.edges.specs.SidesLaws.{ring_on, ring_end}
use borrow.Author.Rules.{rules}
use Rattle.edges.proofs.sides.RingSidesIterator.next.Goals as goal

pub returns-in-Some-clause-steps : goal.returns-in-Some-clause-steps
returns-in-Some-clause-steps c = ring_on c.self.inside.g c.self.view_is c.in_ok-first.was c.in-Some.ensures.steps c.turned-b.ensures

pub returns-in-Some-clause-goes : goal.returns-in-Some-clause-goes
returns-in-Some-clause-goes c = rw (ring_on c.self.inside.g c.self.view_is c.in_ok-first.was c.in-Some.ensures.steps c.turned-b.ensures) (search rules)

pub returns-in-None-clause-steps : goal.returns-in-None-clause-steps
returns-in-None-clause-steps c = ring_end c.self.inside.g c.self.view_is c.in_ok-first.was c.in-None.ensures.steps.0

pub returns-in-None-clause-goes : goal.returns-in-None-clause-goes
returns-in-None-clause-goes c = rw (ring_end c.self.inside.g c.self.view_is c.in_ok-first.was c.in-None.ensures.steps.0) (search rules)
