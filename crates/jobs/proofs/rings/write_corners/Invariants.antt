-- The invariant: the rings to come are well framed, and their corners are what is left to write.
use mathlib.Core.Path.{◌≡◌}
use Prim.Native.Nat.{ℕ, ◌-◌, ◌*◌, ◌≤◌}
use lib.ListN.{length, drop}
use Rattle.seqs.specs.Front.{Front}
use Rattle.std.specs.Prelude.{Some}
use Rattle.jobs.specs.Job.{head, counted, corners_from}
use Rattle.jobs.proofs.rings.write_corners.Given as goal

abbrev pub invariant-loop : goal.invariant-loop
invariant-loop l = ((m : ℕ) × (counted (l.rings - l.counter) l.n (drop l.at l.s) ≡ Some m)) × Front l.initial.corners l.corners (2 * l.n) (corners_from (l.rings - l.counter) (drop l.at l.s)) (corners_from l.rings (drop head l.s)) × (l.at ≤ length l.s) × (l.n ≤ 1024)
