-- The row of a piece. Assumes nothing.
use Rattle.std.proofs.Common.{w64, SFits}
use Rattle.sewing.specs.Sewing.{row_by}
use Rattle.sewing.proofs.Signs.{read, reach_near, signed_fits}
use Rattle.sewing.proofs.row.row_of.Goals as goal
use Rattle.sewing.proofs.row.row_of.Goals.{then-forward, else-forward}

pub invariant_of-result : goal.invariant_of-result
invariant_of-result c =
    let fa : SFits w64 c.to_i64-m0.result = rw c.to_i64-m0.ensures (signed_fits _) in
    let fb : SFits w64 c.to_i64-m1.result = rw c.to_i64-m1.ensures (signed_fits _) in
    let ra = read c.to_i64-m0.result fa in
    let rb = read c.to_i64-m1.result fb in
    let n = rw (ra, rb) at c.reach-n.ensures in
    record { near = rw ra (rw n (reach_near c.to_i64-m0.result c.to_i64-m1.result fa fb)) }

pub returns : goal.returns
unfolding row_by
returns c =
    let a = rw c.ceil.ensures at c.to_i64-m0.ensures in
    let b = rw c.floor.ensures at c.to_i64-m1.ensures in
    let fa : SFits w64 c.to_i64-m0.result = rw a (signed_fits _) in
    let fb : SFits w64 c.to_i64-m1.result = rw b (signed_fits _) in
    let ra = read c.to_i64-m0.result fa in
    let rb = read c.to_i64-m1.result fb in
    let n = rw (ra, rb) at c.reach-n.ensures in
    elim c.if-forward.branch [
      | then-forward w ↦ rw ra (rw (w.first-is, n, a, b, w.if-forward.true))
      | else-forward w ↦ rw ra (rw (w.first-is, n, a, b, w.if-forward.false))
    ]
