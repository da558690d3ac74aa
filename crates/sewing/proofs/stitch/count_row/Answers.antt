-- A row's points, counted. Assumes nothing.
use mathlib.Core.Path.{◌≡◌, refl, ap, ◌∙◌}
use Prim.Native.Nat.{◌+◌, ◌-◌}
use native.Mathlib.Omega.{arith}
use lib.ListN.{length}
use Rattle.std.specs.Prelude.{ℕ, Some}
use Rattle.sewing.specs.Within.{within_in, within_over}
use Rattle.sewing.specs.Sewing.{sew_to, targets}
use Rattle.sewing.specs.SewLaws.{sew_least}
use Rattle.sewing.specs.RowLaws.{targets_length}
use Rattle.sewing.proofs.Loops.{row_count, row_done}
use Rattle.sewing.proofs.stitch.count_row.Goals as goal

pub returns-then-cap-l : goal.returns-then-cap-l
returns-then-cap-l c =
    let a = c.args in
    let len = a.t.now.field.g.len in
    within_over a.cap (a.c0 + length (sew_to len a.pen (targets len a.l.row 0 (a.l.row.n + 2)))) (omega (arith, c.if-cap-l.true, sew_least len a.pen (targets len a.l.row 0 (a.l.row.n + 2)), targets_length len a.l.row 0 (a.l.row.n + 2)))

pub loop-r-init : goal.loop-r-init
loop-r-init c = let e : c.args.l.row.n + 2 - 0 ≡ c.args.l.row.n + 2 = omega arith in (c.requires.0, refl, omega arith, rw e)

pub target_at-to-requires : goal.target_at-to-requires
target_at-to-requires c = omega (arith, c.requires.1)

pub returns-then-cap-c : goal.returns-then-cap-c
returns-then-cap-c c =
    let a = c.args in
    let l = c.loop-r in
    let len = a.t.now.field.g.len in
    let f = rw c.target_at-to.ensures at c.cuts_to-n.ensures in
    let e = row_count len a.l.row l.from l.r (a.l.row.n + 2) (omega arith) in
    within_over a.cap (a.c0 + length (sew_to len a.pen (targets len a.l.row 0 (a.l.row.n + 2)))) (omega (arith, e, f, l.invariant.3))

pub loop-r-preserved : goal.loop-r-preserved
loop-r-preserved c =
    let a = c.args in
    let l = c.loop-r in
    let len = a.t.now.field.g.len in
    let t = c.target_at-to.ensures in
    let f = rw t at c.cuts_to-n.ensures in
    let e = row_count len a.l.row l.from l.r (a.l.row.n + 2) (omega arith) in
    (omega arith, refl, l.invariant.2, rw t (omega (arith, e, f, l.invariant.3)))

pub returns : goal.returns
returns c =
    let a = c.args in
    let l = c.loop-r in
    let len = a.t.now.field.g.len in
    let e = ap length (row_done len a.l.row l.from l.r (a.l.row.n + 2) (omega arith)) in
    let q : l.c ≡ a.c0 + length (sew_to len a.pen (targets len a.l.row 0 (a.l.row.n + 2))) = omega (arith, l.invariant.3, e) in
    ap (λ (v : ℕ). Some v) q ∙ within_in a.cap (a.c0 + length (sew_to len a.pen (targets len a.l.row 0 (a.l.row.n + 2)))) (omega (arith, q, l.invariant.0))
