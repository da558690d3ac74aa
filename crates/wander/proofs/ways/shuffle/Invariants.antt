-- `shuffle` meets its contract: i places are left to be swapped. Assumes nothing.
use mathlib.Core.Path.{◌≡◌}
use Prim.Native.Nat.{◌-◌}
use Rattle.meander_rules.specs.Meander.{shuffle_from, shuffle}
use Rattle.wander.proofs.ways.shuffle.Given as goal

abbrev pub invariant-loop-i : goal.invariant-loop-i
invariant-loop-i l = shuffle_from (l.i - 1) l.order l.x ≡ shuffle l.initial.order l.seed
