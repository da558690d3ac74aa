-- `count_passes` meets its contract: the points so far and those of the passes from counter on come to the answer. Assumes nothing.
use mathlib.Core.Path.{◌≡◌}
use Prim.Native.Nat.{◌+◌, ◌-◌, ◌*◌, ◌≤◌}
use Rattle.seqs.specs.Slices.{capped}
use Rattle.stroke.proofs.passes.count_passes.Given as goal

abbrev pub invariant-loop : goal.invariant-loop
invariant-loop l = (l.c ≤ l.room + 1) × (capped l.room (l.c + (l.passes - l.counter) * (l.n - 1)) ≡ capped l.room (l.n + (l.passes - 1) * (l.n - 1)))
