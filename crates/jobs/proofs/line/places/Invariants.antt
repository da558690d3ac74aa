-- The invariant: the digits that are left, and those counted, are all.
use mathlib.Core.Path.{◌≡◌}
use Prim.Native.Nat.{◌+◌, ◌-◌}
use Rattle.jobs.specs.Text.{places}
use Rattle.jobs.proofs.line.places.Given as goal

abbrev pub invariant-loop-k : goal.invariant-loop-k
invariant-loop-k l = (places (20 - l.k) l.rest + l.k ≡ places 19 l.n + 1)
