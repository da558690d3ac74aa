use Rattle.std.proofs.Common.{◌∙◌, ap, Ok, length, rules}
use lib.Ieee.{of_bits}
use Rattle.tatami.specs.Left.{said_filled, left}
use Rattle.layers.specs.Layers.{slices, twice}
use Rattle.layers.specs.LayerLaws.{prepared_refused, prepared_short, prepared_stands}
use Rattle.layers.specs.Outcomes.{zeroed_length, twice_refused, twice_short, twice_done}
use Rattle.layers.proofs.tatami_twice.Goals as goal

pub fill_both-r-requires : goal.fill_both-r-requires
fill_both-r-requires c = let a = c.args in (prepared_stands a.corners.now a.ends.now a.cosine a.sine a.table.now (length a.places.now) c.prepare.ensures (c.in-Ok.is ∙ ap Ok c.in-Some.is)).1

pub returns-in-Err : goal.returns-in-Err
returns-in-Err c =
    let a = c.args in
    let p = prepared_refused a.corners.now a.ends.now a.cosine a.sine a.table.now (length a.places.now) c.prepare.ensures c.in-Err.is in
    rw (c.refused.ensures.0, c.refused.ensures.1) (twice_refused a.corners.now a.ends.now a.rule a.cosine a.sine a.first a.second (slices a.points.now a.stops.now a.floats.now a.wholes.now) (slices a.points2.now a.stops2.now a.floats2.now a.wholes2.now) a.table.now a.places.now _ p.0 p.1 p.2 p.3)

pub returns-in_default : goal.returns-in_default
returns-in_default c =
    let a = c.args in
    let p = prepared_short a.corners.now a.ends.now a.cosine a.sine a.table.now (length a.places.now) c.prepare.ensures (c.in-Ok.is ∙ ap Ok c.in_default.is) in
    let z = c.clear.ensures in
    let e = c.refused-in_default.ensures in
    (λ i. twice (left (said_filled (e.0 i)) a.points.now a.stops.now c.clear.new.floats c.clear.new.wholes) (left (said_filled (e.1 i)) a.points2.now a.stops2.now c.clear.new.floats2 c.clear.new.wholes2) c.clear.new.table c.clear.new.places)
    ∙ twice_short a.corners.now a.ends.now a.rule a.cosine a.sine a.first a.second (slices a.points.now a.stops.now a.floats.now a.wholes.now) (slices a.points2.now a.stops2.now a.floats2.now a.wholes2.now) a.table.now a.places.now z.table (zeroed_length z.table ∙ c.prepare.ensures.size) z.places (zeroed_length z.places) p z.floats (zeroed_length z.floats) z.wholes (zeroed_length z.wholes) z.floats2 (zeroed_length z.floats2) z.wholes2 (zeroed_length z.wholes2)

pub returns : goal.returns
unfolding of_bits
returns c =
    let a = c.args in
    let p = prepared_stands a.corners.now a.ends.now a.cosine a.sine a.table.now (length a.places.now) c.prepare.ensures (c.in-Ok.is ∙ ap Ok c.in-Some.is) in
    twice_done a.corners.now a.ends.now a.rule a.cosine a.sine a.first a.second (slices a.points.now a.stops.now a.floats.now a.wholes.now) (slices a.points2.now a.stops2.now a.floats2.now a.wholes2.now) a.table.now a.places.now (record { is = c.fill.ensures.after (search rules) }) (zeroed_length (record { is = c.fill.ensures.after (search rules) }) ∙ c.prepare.ensures.size) (record { is = c.fill-2.ensures.after (search rules) }) (search rules) p.0 c.fill_both-r.ensures.wholes_after c.fill_both-r.ensures.wholes2_after
