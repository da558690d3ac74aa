use mathlib.Core.Path.{◌≡◌}
use Prim.Native.Nat.{◌≤◌}
use Rattle.geom.specs.Rings.{rings_of}
use Rattle.rules.specs.Fill.{edges}
use Rattle.rowwise.specs.Nearest.{sides_behind, left_after}
use Rattle.rowwise.specs.Rows.{Scanning}
use Rattle.rowwise.proofs.piece.next_piece.Given as goal

abbrev pub invariant-loop-s : goal.invariant-loop-s
invariant-loop-s l = (l.initial.s.at ≤ l.s.at) × Scanning l.c (edges l.g (rings_of l.o)) l.s l.last × (left_after l.c (edges l.g (rings_of l.o)) l.initial.s l.initial.last ≡ left_after l.c (edges l.g (rings_of l.o)) l.s l.last)

abbrev pub decreases-loop-s : goal.decreases-loop-s
decreases-loop-s l = sides_behind l.c.y (edges l.g (rings_of l.o)) l.last
