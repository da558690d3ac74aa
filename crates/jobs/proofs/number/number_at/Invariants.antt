-- The invariant: the bytes to come make of the value so far the number that is wanted.
use mathlib.Core.Path.{◌≡◌}
use Prim.Native.Nat.{◌+◌, ◌-◌, ◌*◌, ◌^◌, ◌<◌}
use lib.ListN.{take, drop}
use Rattle.jobs.specs.Job.{value, number}
use Rattle.jobs.proofs.number.number_at.Given as goal

abbrev pub invariant-loop-i : goal.invariant-loop-i
invariant-loop-i l = (value l.v (take (l.n - l.i) (drop (l.at + l.i) l.s)) ≡ number l.at l.n l.s) × (l.v < 2 ^ (8 * l.i))
