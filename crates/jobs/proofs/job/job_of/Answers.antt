use native.Mathlib.Omega.{arith}
use Rattle.jobs.specs.Job.{job_of}
use Rattle.jobs.proofs.job.job_of.Goals as goal

pub overflow_cast-result : goal.overflow_cast-result
overflow_cast-result c = omega (arith, c.shared_slice_known-3-1.given 7)

pub returns : goal.returns
unfolding job_of
returns c = rw (c.rule_of-rule.ensures, c.number_at-stagger.ensures.0, c.settings_of-settings.ensures)
