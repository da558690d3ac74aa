-- The room first, then sections, then the list. Assumes nothing.
use mathlib.Core.Path.{refl, sym, ◌∙◌}
use native.Mathlib.Omega.{arith}
use Prim.Native.Nat.{◌*◌}
use lib.ListN.{take}
use lib.Seq.{length-take-le}
use Rattle.refusal.specs.Refusal.{DONE}
use Rattle.sewing.specs.Sewing.{numbers_in}
use Rattle.sewing.specs.LinkedLaws.{numbers_length}
use Rattle.tatami.specs.Stages.{rows_in}
use Rattle.finding.specs.FindLaws.{spans_rows}
use Rattle.tatami.specs.EntryLaws.{few_pieces, few_rows, lent_rise, count_is, floats_listed, rows_listed, sections_listed, rows_length, counts_in}
use Rattle.tatami.specs.RoomLaws.{list_room_lem}
use Rattle.tatami.specs.Outcomes.{front_is}
use Rattle.tatami.proofs.list.list_pieces.Goals as goal

pub has_room-requires : goal.has_room-requires
has_room-requires c = let a = c.args in few_pieces a.t.outline.corners.now a.t.outline.ends.now a.t a.n a.pieces.now a.numbers.now c.requires

pub returns-then-not-has_room : goal.returns-then-not-has_room
returns-then-not-has_room c = rw (sym c.has_room.ensures ∙ c.if-not-has_room.true) (refl, refl, refl, refl)

pub mark_all-requires : goal.mark_all-requires
mark_all-requires c = let a = c.args in (c.requires.floats, omega (arith, c.requires.wholes), few_pieces a.t.outline.corners.now a.t.outline.ends.now a.t a.n a.pieces.now a.numbers.now c.requires, few_rows a.t.outline.corners.now a.t.outline.ends.now a.t a.n a.pieces.now a.numbers.now c.requires, lent_rise a.t.outline.corners.now a.t.outline.ends.now a.t a.n a.pieces.now a.numbers.now c.requires)

pub overflow_mul-n : goal.overflow_mul-n
overflow_mul-n c = let a = c.args in omega (arith, few_pieces a.t.outline.corners.now a.t.outline.ends.now a.t a.n a.pieces.now a.numbers.now c.requires)

pub put_rows-requires : goal.put_rows-requires
put_rows-requires c =
    let a = c.args in
    let m = c.mark_all.ensures.0 in
    ((list_room_lem _ _ _ _ (sym c.has_room.ensures ∙ c.if-not-has_room.false)).1, omega (arith, m.size, c.requires.wholes), spans_rows a.t.outline.corners.now a.t.outline.ends.now a.t c.requires.passed, counts_in a.t.outline.corners.now a.t.outline.ends.now a.t a.n a.pieces.now a.numbers.now c.requires _ m)

pub put_sections-requires : goal.put_sections-requires
put_sections-requires c = ((list_room_lem _ _ _ _ (sym c.has_room.ensures ∙ c.if-not-has_room.false)).2, omega (arith, c.mark_all.ensures.0.size, c.requires.wholes))

pub returns : goal.returns
returns c =
    let a = c.args in
    let m = c.mark_all.ensures.0 in
    let n = count_is a.t.outline.corners.now a.t.outline.ends.now a.t a.n a.pieces.now a.numbers.now c.requires _ m in
    rw (sym c.has_room.ensures ∙ c.if-not-has_room.false) (
      λ i. record { answer = DONE; pieces = n i },
      front_is (take (3 * a.n) a.pieces.now) _ a.ys.now (3 * a.n) (floats_listed a.t.outline.corners.now a.t.outline.ends.now a.t a.n a.pieces.now a.numbers.now c.requires _ m) (length-take-le (3 * a.n) a.pieces.now c.requires.floats) c.put_floats.ensures,
      front_is (rows_in a.t.rows a.t.upward a.n _) _ a.rows.now a.n (rows_listed a.t.outline.corners.now a.t.outline.ends.now a.t a.n a.pieces.now a.numbers.now c.requires _ m) (rows_length a.t.outline.corners.now a.t.outline.ends.now a.t a.n a.pieces.now a.numbers.now c.requires _ m) c.put_rows.ensures,
      front_is (numbers_in a.n _) _ a.sections.now a.n (sections_listed a.t.outline.corners.now a.t.outline.ends.now a.t a.n a.pieces.now a.numbers.now c.requires _ m) (numbers_length a.n _) c.put_sections.ensures,
    )
