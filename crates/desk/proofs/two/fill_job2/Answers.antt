-- The job's outline is what `tatami_twice` is lent. Assumes nothing.
use mathlib.Core.Path.{sym, ap, ◌∙◌}
use native.Mathlib.Omega.{arith}
use lib.Seq.{length-take-le}
use Rattle.jobs.specs.Parsed2.{said_parsed2}
use Rattle.tatami.specs.Left.{said_filled, left}
use Rattle.layers.specs.Layers.{slices, twice}
use Rattle.desk.specs.Desk2Laws.{job2_accepted, left_refused2, left_done2}
use Rattle.desk.proofs.two.fill_job2.Goals as goal

pub overflow_mul-n : goal.overflow_mul-n
overflow_mul-n c = omega (arith, (job2_accepted c.args.bytes.now _ _ _ c.parse2.ensures.value _ _ (ap said_parsed2 c.in-Ok.is)).few)

pub slice_bounds-tatami_twice-end : goal.slice_bounds-tatami_twice-end
slice_bounds-tatami_twice-end c = omega (arith, (job2_accepted c.args.bytes.now _ _ _ c.parse2.ensures.value _ _ (ap said_parsed2 c.in-Ok.is)).numbers_fit)

pub slice_bounds-tatami_twice-end-in-Ok : goal.slice_bounds-tatami_twice-end-in-Ok
slice_bounds-tatami_twice-end-in-Ok c = sym (length-take-le _ _ (omega (arith, (job2_accepted c.args.bytes.now _ _ _ c.parse2.ensures.value _ _ (ap said_parsed2 c.in-Ok.is)).numbers_fit)))

pub slice_bounds-tatami_twice-end-in-Ok-2 : goal.slice_bounds-tatami_twice-end-in-Ok-2
slice_bounds-tatami_twice-end-in-Ok-2 c = omega (arith, (job2_accepted c.args.bytes.now _ _ _ c.parse2.ensures.value _ _ (ap said_parsed2 c.in-Ok.is)).rings_fit)

pub slice_bounds-tatami_twice-end-in-Ok-3 : goal.slice_bounds-tatami_twice-end-in-Ok-3
slice_bounds-tatami_twice-end-in-Ok-3 c = sym (length-take-le _ _ (omega (arith, (job2_accepted c.args.bytes.now _ _ _ c.parse2.ensures.value _ _ (ap said_parsed2 c.in-Ok.is)).rings_fit)))

pub returns-in-Err-clause-places_after : goal.returns-in-Err-clause-places_after
returns-in-Err-clause-places_after c =
    let a = c.args in
    (λ i. twice (left (said_filled (c.refused.ensures.0 i)) a.points.now a.stops.now a.floats.now a.wholes.now) (left (said_filled (c.refused.ensures.1 i)) a.points2.now a.stops2.now a.floats2.now a.wholes2.now) a.table.now a.places.now)
    ∙ left_refused2 a.bytes.now _ _ _ c.parse2.ensures.value (slices a.points.now a.stops.now a.floats.now a.wholes.now) (slices a.points2.now a.stops2.now a.floats2.now a.wholes2.now) a.table.now a.places.now _ (ap said_parsed2 c.in-Err.is)

pub returns-in-Ok-clause-places_after : goal.returns-in-Ok-clause-places_after
returns-in-Ok-clause-places_after c =
    let a = c.args in
    let p = c.parse2.ensures in
    left_done2 a.bytes.now _ _ _ p.value (slices a.points.now a.stops.now a.floats.now a.wholes.now) (slices a.points2.now a.stops2.now a.floats2.now a.wholes2.now) a.table.now a.places.now _ _ (ap said_parsed2 c.in-Ok.is) _ _ _ _ p.corners_after p.ends_after c.layer_of-first.ensures c.layer_of-second.ensures _ c.tatami_twice.ensures
