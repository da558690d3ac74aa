use mathlib.Core.Path.{◌≡◌}
use lib.ListN.{drop}
use Rattle.geom.specs.Outline.{rising}
use Rattle.limits.proofs.ends_rise.Given as goal

abbrev pub invariant-loop-e : goal.invariant-loop-e
invariant-loop-e l = rising l.a (drop l.e-index l.ends) l.n ≡ rising 0 l.ends l.n
