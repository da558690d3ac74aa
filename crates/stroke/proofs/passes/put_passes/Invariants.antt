-- `put_passes` meets its contract: the passes from t on are to be written from `at` on. Assumes nothing.
use Prim.Native.Nat.{◌-◌, ◌*◌, ◌≤◌}
use mathlib.Core.List.{◌++◌}
use lib.ListN.{take}
use Rattle.seqs.specs.Front.{Front}
use Rattle.geom.specs.Sewing.{flat}
use Rattle.stroke.specs.Running.{passes_from, standing}
use Rattle.stroke.proofs.passes.put_passes.Given as goal

abbrev pub invariant-loop-pass : goal.invariant-loop-pass
invariant-loop-pass l = (2 * l.n ≤ l.at) × Front l.initial.out l.out l.at (flat (passes_from (standing l.initial.out l.n) l.pass (l.passes - l.pass))) (take (2 * l.n) l.initial.out ++ flat (passes_from (standing l.initial.out l.n) 1 (l.passes - 1)))
