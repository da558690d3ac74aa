-- The invariant: the rings to come are well framed, and their ends are what is left to write.
use mathlib.Core.Path.{◌≡◌}
use Prim.Native.Nat.{ℕ, ◌-◌, ◌≤◌}
use lib.ListN.{length, drop}
use Rattle.seqs.specs.Front.{Front}
use Rattle.std.specs.Prelude.{Some}
use Rattle.jobs.specs.Job.{head, counted, ends_from}
use Rattle.jobs.proofs.rings.write_ends.Given as goal

abbrev pub invariant-loop-i : goal.invariant-loop-i
invariant-loop-i l = ((m : ℕ) × (counted (l.rings - l.i) l.n (drop l.at l.s) ≡ Some m)) × Front l.initial.ends l.ends l.i (ends_from (l.rings - l.i) l.n (drop l.at l.s)) (ends_from l.rings 0 (drop head l.s)) × (l.at ≤ length l.s)
