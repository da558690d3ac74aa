-- `side_from` meets its contract: what was passed does not lie beyond s. Assumes nothing.
use mathlib.Core.Path.{◌≡◌}
use Prim.Native.Nat.{◌+◌}
use lib.ListN.{drop}
use Rattle.arc.specs.Rail.{not_beyond}
use Rattle.arc.proofs.side_from.Given as goal

abbrev pub invariant-loop-i : goal.invariant-loop-i
invariant-loop-i l = l.i + not_beyond l.s (drop l.i l.cum) ≡ l.k + not_beyond l.s (drop l.k l.cum)
