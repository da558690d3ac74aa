-- `put_stitches` meets its contract: the stitches of the pairs from k on are to be written from `to` on. Assumes nothing.
use Prim.Native.Nat.{◌*◌, ◌≤◌}
use mathlib.Core.List.{◌++◌}
use lib.ListN.{take, drop}
use Rattle.seqs.specs.Front.{Front}
use Rattle.geom.specs.Outline.{points}
use Rattle.geom.specs.Sewing.{flat}
use Rattle.satinrules.specs.Column.{stitches_from, stitches}
use Rattle.passes.specs.Threads.{pairs_in}
use Rattle.passes.proofs.top.put_stitches.Given as goal

abbrev pub invariant-loop-k : goal.invariant-loop-k
invariant-loop-k l = (4 * l.n ≤ l.to) × Front l.initial.w l.w l.to (flat (stitches_from l.g l.second l.o (drop l.k (pairs_in (points (take (4 * l.n) l.initial.w)))))) (take (4 * l.n) l.initial.w ++ flat (stitches l.g (pairs_in (points (take (4 * l.n) l.initial.w)))))
