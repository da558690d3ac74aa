-- `turn_round` meets its contract: at each turn the ends of what is left are exchanged. Assumes nothing.
use mathlib.Core.Path.{◌≡◌}
use Prim.Native.Nat.{◌-◌, ◌*◌, ◌/◌}
use mathlib.Core.List.{reverse}
use lib.ListN.{length}
use Rattle.geom.specs.Outline.{points}
use Rattle.column.specs.TurnedLaws.{Mid}
use Rattle.column.proofs.turning.turn_round.Given as goal

abbrev pub invariant-loop-i : goal.invariant-loop-i
invariant-loop-i l = (length l.s ≡ length l.initial.s) × Mid (points l.s) (reverse (points l.initial.s)) l.i (length l.initial.s / 2 - 2 * l.i)
