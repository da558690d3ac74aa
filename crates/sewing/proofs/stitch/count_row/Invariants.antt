-- A row's points, counted. Assumes nothing.
use mathlib.Core.Path.{◌≡◌}
use Prim.Native.Nat.{◌+◌, ◌-◌, ◌≤◌}
use lib.ListN.{length}
use Rattle.sewing.specs.Sewing.{sew_to, targets}
use Rattle.sewing.proofs.stitch.count_row.Given as goal

abbrev pub invariant-loop-r : goal.invariant-loop-r
invariant-loop-r l =
    let len = l.t.field.g.len in
    (l.c ≤ l.cap) × (l.end ≡ l.l.row.n + 2) × (l.l.row.n ≤ l.cap) × (l.c + length (sew_to len l.from (targets len l.l.row l.r (l.end - l.r))) ≡ l.initial.c + length (sew_to len l.fn.pen (targets len l.l.row 0 (l.l.row.n + 2))))
