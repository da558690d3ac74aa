use mathlib.Core.Path.{◌≡◌}
use Prim.Native.Nat.{◌+◌}
use lib.ListN.{length}
use Rattle.std.specs.Prelude.{None}
use Rattle.seqs.specs.Front.{Front}
use Rattle.geom.specs.Outline.{points}
use Rattle.salvage.specs.Ring.{strays}
use Rattle.salvage.proofs.ring.mark_strays.Given as goal

abbrev pub invariant-loop-i : goal.invariant-loop-i
invariant-loop-i l = (l.i-iterator.count + length l.i-iterator.iter ≡ length l.marks) × Front l.initial.marks l.marks l.i-iterator.count (strays l.last l.i-iterator.iter) (strays None (points l.ring))
