use Rattle.jobs.specs.Job2.{second_of}
use Rattle.jobs.proofs.job2.second_of.Goals as goal

pub returns : goal.returns
unfolding second_of
returns c = rw (c.number_at-stagger.ensures.0, c.settings_of-settings.ensures)
