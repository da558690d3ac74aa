-- The invariant: what the rings to come make of the corners so far is what all come to.
use mathlib.Core.Path.{◌≡◌}
use Prim.Native.Nat.{◌-◌, ◌≤◌}
use lib.ListN.{length, drop}
use Rattle.jobs.specs.Job.{head, counted}
use Rattle.jobs.proofs.frame.count_corners.Given as goal

abbrev pub invariant-loop : goal.invariant-loop
invariant-loop l = (counted (l.rings - l.counter) l.n (drop l.at l.s) ≡ counted l.rings 0 (drop head l.s)) × (l.at ≤ length l.s) × (l.n ≤ 1024)
