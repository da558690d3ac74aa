-- `written` meets its contract: by the counts there is room for all that is written, or nothing is. Assumes nothing.
use mathlib.Core.Path.{◌∙◌}
use Prim.Native.Nat.{◌-◌, ◌*◌}
use native.Mathlib.Omega.{arith}
use lib.ListN.{length}
use Rattle.seqs.specs.Sift.{sift_length}
use Rattle.seqs.specs.Tests.{passed, failed}
use Rattle.salvage.specs.Ring.{kept}
use Rattle.salvage.specs.Salvage.{outcome_by}
use Rattle.salvage.specs.OutlineLaws.{room_all}
use Rattle.salvage.proofs.ByMarks.{sized, rise_marks, count_few, fits_by, corners_room, places_room, reasons_room, all_written}
use mathlib.Core.Bool.{not}
use mathlib.Core.Path.{ap}
use Rattle.salvage.proofs.written.Goals as goal

pub overflow_sub-dropped : goal.overflow_sub-dropped
overflow_sub-dropped c = omega (arith, c.count_kept-kept.ensures, sift_length kept c.args.marks.now)

pub has_room-requires : goal.has_room-requires
has_room-requires c = omega (arith, c.count_kept-kept.ensures, count_few c.args.o.corners.now c.args.o.ends.now c.args.marks.now c.requires.0 c.requires.1)

pub returns-then-not-has_room : goal.returns-then-not-has_room
unfolding outcome_by
returns-then-not-has_room c =
    let a = c.args in
    rw (fits_by a.o.corners.now a.o.ends.now a.marks.now c.requires.0 c.requires.1 c.count_kept-kept.result c.count_kept-kept.ensures (length a.keep.now) (length a.stops.now) (length a.places.now) (length a.reasons.now) ∙ failed c.has_room.ensures (ap not c.if-not-has_room.true))

pub put_corners-requires : goal.put_corners-requires
put_corners-requires c =
    let a = c.args in
    let n = c.count_kept-kept.result in
    let d = length a.marks.now - n in
    let r = room_all (2 * n) (length a.o.ends.now) d d (length a.keep.now) (length a.stops.now) (length a.places.now) (length a.reasons.now) (passed c.has_room.ensures (ap not c.if-not-has_room.false)) in
    (sized a.o.corners.now a.o.ends.now a.marks.now c.requires.0 c.requires.1, corners_room a.o.corners.now a.o.ends.now a.marks.now c.requires.0 c.requires.1 n c.count_kept-kept.ensures (length a.keep.now) r.corners)

pub put_ends-requires : goal.put_ends-requires
put_ends-requires c =
    let a = c.args in
    let n = c.count_kept-kept.result in
    let d = length a.marks.now - n in
    let r = room_all (2 * n) (length a.o.ends.now) d d (length a.keep.now) (length a.stops.now) (length a.places.now) (length a.reasons.now) (passed c.has_room.ensures (ap not c.if-not-has_room.false)) in
    (rise_marks a.o.corners.now a.o.ends.now a.marks.now c.requires.0 c.requires.1, r.ends)

pub put_dropped-requires : goal.put_dropped-requires
put_dropped-requires c =
    let a = c.args in
    let n = c.count_kept-kept.result in
    let d = length a.marks.now - n in
    let r = room_all (2 * n) (length a.o.ends.now) d d (length a.keep.now) (length a.stops.now) (length a.places.now) (length a.reasons.now) (passed c.has_room.ensures (ap not c.if-not-has_room.false)) in
    (places_room a.o.corners.now a.o.ends.now a.marks.now c.requires.0 c.requires.1 n c.count_kept-kept.ensures (length a.places.now) r.places, reasons_room a.o.corners.now a.o.ends.now a.marks.now c.requires.0 c.requires.1 n c.count_kept-kept.ensures (length a.reasons.now) r.reasons)

pub returns : goal.returns
returns c =
    let a = c.args in
    let n = c.count_kept-kept.result in
    rw (fits_by a.o.corners.now a.o.ends.now a.marks.now c.requires.0 c.requires.1 n c.count_kept-kept.ensures (length a.keep.now) (length a.stops.now) (length a.places.now) (length a.reasons.now) ∙ passed c.has_room.ensures (ap not c.if-not-has_room.false))
    (all_written a.o.corners.now a.o.ends.now a.marks.now c.requires.0 c.requires.1 n c.count_kept-kept.ensures _ _ _ _ _ _ _ _ c.put_corners.ensures c.put_ends.ensures c.put_dropped.ensures.places_after c.put_dropped.ensures.reasons_after)
