-- The room first, then the points. Assumes nothing.
use mathlib.Core.Path.{refl, sym, ◌∙◌}
use native.Mathlib.Omega.{arith}
use Rattle.geom.specs.SewingLaws.{flat_length}
use Rattle.rules.specs.Calls.{sewn_points}
use Rattle.refusal.specs.Refusal.{DONE}
use Rattle.tatami.specs.Stages.{sewn_in}
use Rattle.tatami.specs.RoomLaws.{sewn_count, room_ends, room_points, room_enough, points_are, points_fit}
use Rattle.tatami.proofs.sew.sew.Goals as goal

pub returns-then-sections-stops : goal.returns-then-sections-stops
returns-then-sections-stops c =
    let a = c.args in
    let ss = sewn_in a.f a.sections a.pieces.now a.numbers.now in
    rw (room_ends ss a.points.now a.stops.now (omega (arith, sewn_count a.f a.sections a.pieces.now a.numbers.now, c.if-sections-stops.true))) (refl, refl, refl)

pub ready-t-requires : goal.ready-t-requires
ready-t-requires c = c.requires.stagger

pub returns-in_default : goal.returns-in_default
unfolding sewn_points
returns-in_default c =
    let a = c.args in
    let ss = sewn_in a.f a.sections a.pieces.now a.numbers.now in
    rw (room_points ss a.points.now a.stops.now (sym c.in_default.is ∙ (rw c.ready-t.ensures at c.count.ensures))) (refl, refl, refl)

pub write-requires : goal.write-requires
unfolding sewn_points
write-requires c =
    let a = c.args in
    let ss = sewn_in a.f a.sections a.pieces.now a.numbers.now in
    rw c.ready-t.ensures (c.requires, omega (arith, flat_length (sewn_points ss), points_fit ss a.points.now a.stops.now (sym c.in-Some.is ∙ (rw c.ready-t.ensures at c.count.ensures))), c.if-sections-stops.false)

pub returns : goal.returns
unfolding sewn_points
returns c =
    let a = c.args in
    let ss = sewn_in a.f a.sections a.pieces.now a.numbers.now in
    let many = sewn_count a.f a.sections a.pieces.now a.numbers.now in
    let n = points_are ss a.points.now a.stops.now (sym c.in-Some.is ∙ (rw c.ready-t.ensures at c.count.ensures)) in
    rw (room_enough ss a.points.now a.stops.now (sym c.in-Some.is ∙ (rw c.ready-t.ensures at c.count.ensures)) (omega (arith, many, c.if-sections-stops.false)))
    (λ i. record { answer = DONE; sections = sym many i; points = n i }, (rw c.ready-t.ensures at c.write.ensures.0), (rw c.ready-t.ensures at c.write.ensures.1))
