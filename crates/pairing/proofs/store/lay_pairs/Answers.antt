-- `lay_pairs` meets its contract: the pairs at the places that the iterator has left are still to be laid. Assumes nothing.
use Rattle.std.proofs.Common.{arith, refl, ap, ◌∙◌, length}
use Rattle.geom.specs.Outline.{points}
use Rattle.pairing.specs.WalkLaws.{places_bound}
use Rattle.pairing.specs.StoreLaws.{lain_start, lain_next, lain_end, within_size}
use Rattle.pairing.proofs.store.lay_pairs.Goals as goal

pub loop-place-init : goal.loop-place-init
loop-place-init c = let r = c.args.rails in (refl, rw (c.into_iter-place-iterator.ensures.into_iter_gives, c.of-place-items.ensures) (lain_start r.a.now r.b.now r.course.sync.now))

pub overflow_add-at : goal.overflow_add-at
overflow_add-at c =
    let r = c.args.rails in
    omega (arith, c.loop-place.invariant.1.count, places_bound r.course.ends (points r.course.sync.now) c.args.pass, c.requires, ap length c.in-Some.ensures.steps)

pub loop-place-preserved : goal.loop-place-preserved
loop-place-preserved c =
    let r = c.args.rails in
    let l = c.loop-place in
    let e = rw c.pair_at.ensures at c.put_within.ensures in
    rw e (within_size l.w l.at _ ∙ l.invariant.0, lain_next r.a.now r.b.now r.course.sync.now c.in-Some.place c.next.new.self c.in-Some.ensures.steps l.invariant.1)

pub returns : goal.returns
returns c =
    let r = c.args.rails in
    let l = c.loop-place in
    let h = lain_end r.a.now r.b.now r.course.sync.now c.in-None.ensures.steps.0 l.invariant.1 in
    (h.0, l.invariant.0, rw (h.0, ← l.invariant.0) h.1)
