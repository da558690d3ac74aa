use Rattle.jobs.specs.Job.{number, count}
use Rattle.jobs.proofs.number.count_at.Goals as goal

pub returns : goal.returns
unfolding number count
returns c = c.number_at.ensures
