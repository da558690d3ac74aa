use Rattle.jobs.specs.Job.{settings_of}
use Rattle.jobs.proofs.job.settings_of.Goals as goal

pub returns : goal.returns
unfolding settings_of
returns c = rw (c.float_at.ensures, c.float_at-2.ensures, c.float_at-3.ensures, c.float_at-4.ensures, c.float_at-5.ensures, c.float_at-6.ensures)
