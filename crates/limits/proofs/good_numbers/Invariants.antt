use mathlib.Core.Path.{◌≡◌}
use mathlib.Core.Bool.{◌&&◌}
use lib.ListN.{drop}
use Rattle.limits.specs.Limits.{good_numbers}
use Rattle.limits.proofs.good_numbers.Given as goal

abbrev pub invariant-loop-x : goal.invariant-loop-x
invariant-loop-x l = (l.ok && good_numbers (drop l.x-index l.l)) ≡ good_numbers l.l
