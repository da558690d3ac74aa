use Rattle.sweep.specs.Swept.{swept_all}
use Rattle.sweep.proofs.rows.lay.Goals as goal

pub returns : goal.returns
unfolding swept_all
returns c = rw c.wait.ensures at c.all_rows.ensures
