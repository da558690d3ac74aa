use mathlib.Core.Path.{◌≡◌}
use mathlib.Core.Bool.{true}
use Prim.Native.Nat.{◌≤◌}
use lib.ListN.{length, drop}
use Rattle.seqs.specs.Front.{Front}
use Rattle.geom.specs.Outline.{cut, rising}
use Rattle.salvage.specs.OutlineLaws.{counted_ends}
use Rattle.salvage.proofs.writing.put_ends.Given as goal

abbrev pub invariant-loop-k : goal.invariant-loop-k
invariant-loop-k l = (l.n ≤ l.a) × (rising l.a (drop l.k l.ends) (length l.marks) ≡ true) × Front l.initial.out l.out l.k (counted_ends l.n (cut l.a (drop l.k l.ends) l.marks)) (counted_ends 0 (cut 0 l.ends l.marks))
