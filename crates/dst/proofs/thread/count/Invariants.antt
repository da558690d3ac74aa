-- `count` meets its contract: the records so far and those of the points to come come to the answer. Assumes nothing.
use mathlib.Core.Path.{◌≡◌}
use mathlib.Core.Bool.{true}
use Prim.Native.Nat.{◌+◌, ◌≤◌}
use lib.ListN.{length}
use Rattle.seqs.specs.Lists.{every}
use Rattle.seqs.specs.Slices.{capped}
use Rattle.geom.specs.Outline.{points}
use Rattle.limits.specs.Limits.{good_point}
use Rattle.dst.specs.Thread.{origin, thread}
use Rattle.dst.specs.Lifted.{standing}
use Rattle.dst.proofs.thread.count.Given as goal

abbrev pub invariant-loop-p : goal.invariant-loop-p
invariant-loop-p l = (l.c ≤ l.room + 1) × (every good_point l.p-iterator ≡ true) × (capped l.room (l.c + length (thread (standing l.from) l.p-iterator)) ≡ capped l.room (1 + length (thread origin (points l.points))))
