-- The invariant: the floats to come are what is left to write.
use Prim.Native.Nat.{◌+◌, ◌-◌, ◌*◌}
use lib.ListN.{drop}
use Rattle.seqs.specs.Front.{Front}
use Rattle.jobs.specs.Job.{floats}
use Rattle.jobs.proofs.rings.write_floats.Given as goal

abbrev pub invariant-loop-i : goal.invariant-loop-i
invariant-loop-i l = Front l.initial.out l.out l.i (floats (l.n - l.i) (drop (l.at + 8 * l.i) l.s)) (floats l.n (drop l.at l.s))
