use mathlib.Core.Path.{◌≡◌}
use Prim.Native.Nat.{◌+◌, ◌≤◌}
use lib.IntN.{nat_abs}
use lib.ListN.{drop}
use Rattle.rules.specs.Fill.{crossings}
use Rattle.sweep.proofs.Scans.{merged_at}
use Rattle.sweep.proofs.piece.crossing_at.Given as goal

abbrev pub invariant-loop-i : goal.invariant-loop-i
invariant-loop-i l = (l.c.next ≡ l.at + 1 + l.i-index) × (nat_abs l.c.dir + l.at ≤ l.c.next) × (crossings l.table l.y (drop l.at l.places) ≡ merged_at l.table l.y l.places l.c.x l.c.dir l.c.next)
