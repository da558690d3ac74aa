-- What is left of a version 2 job, but for the working slices. Assumes nothing.
use lib.Ieee.{of_bits}
use mathlib.Core.Path.{ap}
use borrow.Author.Rules.{rules}
use Rattle.fill.proofs.fill2.Goals as goal

pub returns : goal.returns
unfolding of_bits
returns c = let e = c.fill_job2.ensures.places_after in record { seen = (ap (λ l. l.first.said) e, ap (λ l. l.first.points) e, ap (λ l. l.first.ends) e); seen_2 = (ap (λ l. l.second.said) e, ap (λ l. l.second.points) e, ap (λ l. l.second.ends) e) }
