use borrow.Author.Tests.{eq-eqb, ne_eqb}
use Rattle.jobs.specs.Job.{rule_of}
use Rattle.jobs.proofs.job.rule_of.Goals as goal

pub returns-then-b-eq0 : goal.returns-then-b-eq0
unfolding rule_of
returns-then-b-eq0 c = rw (eq-eqb _ 0 c.if-b-eq0.true)

pub returns : goal.returns
unfolding rule_of
returns c = rw (ne_eqb _ 0 c.if-b-eq0.false)
