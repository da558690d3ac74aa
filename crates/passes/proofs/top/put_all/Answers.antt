-- `put_all` meets its contract: the corners that are left are to be written from `to` on. Assumes nothing.
use native.Mathlib.Omega.{arith}
use mathlib.Core.Path.{ap}
use mathlib.Core.List.{[], ◌∷◌}
use Rattle.seqs.specs.Front.{front_from, front_at}
use Rattle.seqs.specs.Wrote.{put_end, put_room}
use Rattle.geom.specs.Outline.{points}
use Rattle.geom.specs.Sewing.{flat}
use Rattle.geom.specs.SewingLaws.{flat_none, points_room, points_put}
use Rattle.passes.proofs.top.put_all.Goals as goal

pub loop-p-init : goal.loop-p-init
loop-p-init c =
    let a = c.args in
    rw (c.into_iter-p-iterator.ensures.into_iter_gives, c.of-p-items.ensures) (front_from a.out.now (flat (points a.line.now)) a.k (omega (arith, c.requires)))

pub put_point-requires : goal.put_point-requires
put_point-requires c =
    let a = c.args in
    let l = c.loop-p in
    let f = rw c.in-Some.ensures.steps at l.invariant in
    omega (arith, points_room (c.in-Some.p ∷ []) c.next.new.self f (put_room a.out.now (flat (points a.line.now)) a.k c.requires))

pub loop-p-preserved : goal.loop-p-preserved
loop-p-preserved c =
    let a = c.args in
    let l = c.loop-p in
    let f = rw c.in-Some.ensures.steps at l.invariant in
    points_put (c.in-Some.p ∷ []) c.next.new.self f (put_room a.out.now (flat (points a.line.now)) a.k c.requires) _ c.put_point.ensures

pub shape_of-out : goal.shape_of-out
shape_of-out c = c.loop-p.invariant.len

pub returns : goal.returns
returns c =
    let a = c.args in
    put_end (flat (points a.line.now)) a.k (omega (arith, c.requires)) (front_at (flat_none c.in-None.ensures.steps.0) c.loop-p.invariant)
