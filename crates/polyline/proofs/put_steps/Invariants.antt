-- `put_steps` meets its contract: the ends of the steps from i on are to be written from `at` on, and then the corner. Assumes nothing.
use mathlib.Core.Path.{◌≡◌}
use Prim.Native.Nat.{◌+◌, ◌-◌, ◌*◌}
use mathlib.Core.List.{◌++◌}
use lib.ListN.{take}
use Rattle.seqs.specs.Front.{Front}
use Rattle.polyline.specs.Line.{steps_from}
use Rattle.geom.specs.Sewing.{flat}
use Rattle.polyline.proofs.put_steps.Given as goal

abbrev pub invariant-loop-i : goal.invariant-loop-i
invariant-loop-i l = (l.at + 2 ≡ l.k + 2 * l.i) × Front l.initial.out l.out l.at (flat (steps_from l.a l.b l.n l.i (l.n - l.i))) (take l.k l.initial.out ++ flat (steps_from l.a l.b l.n 1 (l.n - 1)))
