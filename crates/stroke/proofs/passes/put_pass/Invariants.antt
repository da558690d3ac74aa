-- `put_pass` meets its contract: the points of the pass from r on are to be written from `at` on. Assumes nothing.
use Prim.Native.Nat.{◌≤◌}
use mathlib.Core.List.{◌++◌}
use lib.ListN.{take, drop}
use Rattle.seqs.specs.Front.{Front}
use Rattle.geom.specs.Sewing.{flat}
use Rattle.stroke.specs.Running.{pass, standing}
use Rattle.stroke.specs.RunningLaws.{turned}
use Rattle.stroke.proofs.passes.put_pass.Given as goal

abbrev pub invariant-loop-r : goal.invariant-loop-r
invariant-loop-r l = (l.k ≤ l.at) × Front l.initial.out l.out l.at (flat (drop l.r (turned (standing l.initial.out l.n) l.back))) (take l.k l.initial.out ++ flat (pass (standing l.initial.out l.n) l.back))
