use mathlib.Core.Path.{◌≡◌}
use Prim.Native.Nat.{◌-◌, ◌≤◌}
use lib.ListN.{length}
use lib.IntN.{nat_abs}
use Rattle.sweep.specs.Swept.{rest_of}
use Rattle.sweep.proofs.piece.next_piece.Given as goal

abbrev pub invariant-loop-s : goal.invariant-loop-s
invariant-loop-s l = (l.initial.s.at ≤ l.s.at) × (l.s.at ≤ length l.places) × (nat_abs l.s.w ≤ l.s.at) × (rest_of l.c l.table l.places l.initial.s ≡ rest_of l.c l.table l.places l.s)

abbrev pub decreases-loop-s : goal.decreases-loop-s
decreases-loop-s l = length l.places - l.s.at
