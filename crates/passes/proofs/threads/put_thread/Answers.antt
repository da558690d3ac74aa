-- `put_thread` meets its contract: the points of the pairs from r on are to be written from `to` on. Assumes nothing.
use native.Mathlib.Omega.{arith}
use Rattle.seqs.specs.Front.{front_from, front_at}
use Rattle.seqs.specs.Wrote.{put_end}
use Rattle.geom.specs.Sewing.{flat}
use Rattle.geom.specs.SewingLaws.{flat_length, flat_none}
use Rattle.passes.specs.ThreadsLaws.{pass_over, pass_length, pass_none, pass_room, pass_put}
use borrow.Author.Rules.{rules}
use Rattle.passes.proofs.threads.put_thread.Goals as goal

pub loop-r-init : goal.loop-r-init
loop-r-init c = front_from _ _ c.args.k (omega (arith, c.requires))

pub overflow_mul-j : goal.overflow_mul-j
overflow_mul-j c = omega (arith, c.place-j.ensures.1, c.well_formed)

pub pair_in-requires : goal.pair_in-requires
pair_in-requires c = omega (arith, c.place-j.ensures.1)

pub put_point-requires : goal.put_point-requires
put_point-requires c =
    let a = c.args in
    let l = c.loop-r in
    omega (arith, pass_room a.k a.s.now a.thread a.back l.r l.invariant c.requires (search rules))

pub overflow_add-to : goal.overflow_add-to
overflow_add-to c =
    let a = c.args in
    let l = c.loop-r in
    omega (arith, pass_room a.k a.s.now a.thread a.back l.r l.invariant c.requires (search rules), l.invariant.len, c.well_formed)

pub loop-r-preserved : goal.loop-r-preserved
loop-r-preserved c =
    let a = c.args in
    let l = c.loop-r in
    let e = rw (c.point_of.ensures, c.pair_in.ensures, c.place-j.ensures.0) at c.put_point.ensures in
    pass_put a.k a.s.now a.thread a.back l.r l.invariant c.requires (search rules) _ e

pub shape_of-out : goal.shape_of-out
shape_of-out c = c.loop-r.invariant.len

pub returns : goal.returns
returns c =
    let a = c.args in
    let l = c.loop-r in
    let f = put_end (flat (pass_over a.s.now a.thread a.back)) a.k (omega (arith, c.requires)) (front_at (flat_none (pass_none a.s.now a.thread a.back l.r (search rules))) l.invariant) in
    (f.0, omega (arith, f.1, flat_length (pass_over a.s.now a.thread a.back), pass_length a.s.now a.thread a.back))
