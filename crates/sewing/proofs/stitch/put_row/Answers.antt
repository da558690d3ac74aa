-- A row's points, written. Assumes nothing.
use mathlib.Core.Path.{◌≡◌, refl, ap, ◌∙◌}
use Prim.Native.Nat.{◌+◌, ◌-◌}
use native.Mathlib.Omega.{arith}
use lib.ListN.{length}
use Rattle.seqs.specs.Front.{front_from, front_at, front_room_block, front_whole}
use Rattle.seqs.specs.Wrote.{head_length, put_end}
use Rattle.geom.specs.Point.{point}
use Rattle.geom.specs.Sewing.{flat}
use Rattle.sewing.specs.Sewing.{gap, cuts, sew_to, back, targets, target, row_sewn}
use Rattle.sewing.specs.SewLaws.{flat_back_none}
use Rattle.sewing.proofs.Loops.{row_next, row_done, row_fits}
use Rattle.sewing.proofs.stitch.put_row.Goals as goal

pub overflow_add-end : goal.overflow_add-end
overflow_add-end c = let a = c.args in let g = a.t.now.field.g in omega (arith, row_fits g.len a.l.row a.pen g.cosine g.sine a.k (length a.out.now) c.requires)

pub loop-r-init : goal.loop-r-init
loop-r-init c = let e : c.args.l.row.n + 2 - 0 ≡ c.args.l.row.n + 2 = omega arith in (refl, refl, rw e (front_from _ _ c.args.k (omega (arith, c.requires))))

pub target_at-to-requires : goal.target_at-to-requires
target_at-to-requires c = let a = c.args in let g = a.t.now.field.g in omega (arith, row_fits g.len a.l.row a.pen g.cosine g.sine a.k (length a.out.now) c.requires)

pub put_gap-at-requires : goal.put_gap-at-requires
put_gap-at-requires c =
    let a = c.args in
    let l = c.loop-r in
    let g = a.t.now.field.g in
    let t = c.target_at-to.ensures in
    let f = rw t at c.cuts_to-n.ensures in
    let q = point (target g.len a.l.row l.r) a.l.row.y in
    let m = flat (back g.cosine g.sine (gap l.from q (cuts g.len l.from q))) in
    let rest = flat (back g.cosine g.sine (sew_to g.len q (targets g.len a.l.row (l.r + 1) (a.l.row.n + 2 - (l.r + 1))))) in
    let d = front_at (row_next g.len a.l.row l.from l.r (a.l.row.n + 2) g.cosine g.sine (omega arith)) l.invariant.2 in
    rw (t, f) (front_room_block m rest d (omega (arith, head_length a.out.now (flat (row_sewn g a.pen a.l.row)) a.k (omega (arith, c.requires)), c.requires)))

pub loop-r-preserved : goal.loop-r-preserved
loop-r-preserved c =
    let a = c.args in
    let l = c.loop-r in
    let g = a.t.now.field.g in
    let t = c.target_at-to.ensures in
    let f = rw t at c.cuts_to-n.ensures in
    let q = point (target g.len a.l.row l.r) a.l.row.y in
    let m = flat (back g.cosine g.sine (gap l.from q (cuts g.len l.from q))) in
    let rest = flat (back g.cosine g.sine (sew_to g.len q (targets g.len a.l.row (l.r + 1) (a.l.row.n + 2 - (l.r + 1))))) in
    let d = front_at (row_next g.len a.l.row l.from l.r (a.l.row.n + 2) g.cosine g.sine (omega arith)) l.invariant.2 in
    let b = front_room_block m rest d (omega (arith, head_length a.out.now (flat (row_sewn g a.pen a.l.row)) a.k (omega (arith, c.requires)), c.requires)) in
    let u = rw (t, f) at c.put_gap-at.ensures.0 in
    let v = rw (t, f) at c.put_gap-at.ensures.1 in
    (refl, refl, rw (t, v) (front_whole m rest _ d b u))

pub shape_of-out : goal.shape_of-out
shape_of-out c = c.loop-r.invariant.2.len

pub returns : goal.returns
returns c =
    let a = c.args in
    let l = c.loop-r in
    let g = a.t.now.field.g in
    put_end (flat (row_sewn g a.pen a.l.row)) a.k (omega (arith, c.requires)) (front_at (ap (λ x. flat (back g.cosine g.sine x)) (row_done g.len a.l.row l.from l.r (a.l.row.n + 2) (omega arith)) ∙ flat_back_none g.cosine g.sine) l.invariant.2)
