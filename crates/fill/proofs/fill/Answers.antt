-- What is left of the job, but for the working slices. Assumes nothing.
use lib.Ieee.{of_bits}
use mathlib.Core.Path.{ap}
use borrow.Author.Rules.{rules}
use Rattle.fill.proofs.fill.Goals as goal

pub returns : goal.returns
unfolding of_bits
returns c = let e = c.fill_job.ensures.wholes_after in (ap (λ l. l.said) e, ap (λ l. l.points) e, ap (λ l. l.ends) e)
