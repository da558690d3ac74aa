use Rattle.std.proofs.Common.{sym, ◌∙◌, [], ◌∷◌, refl}
use Rattle.std.proofs.lemmas.Result.{err_from_is_err_and}
use Rattle.refusal.specs.AnswerLaws.{number_some}
use Rattle.satinroom.specs.Room.{pairs_room_of}
use Rattle.satinroom.specs.RoomLaws.{room_refused, room_few, room_open}
use Rattle.satinroom.proofs.pairs_room.Goals as goal

pub returns-in_err-gate : goal.returns-in_err-gate
unfolding pairs_room_of
returns-in_err-gate c =
    let a = c.args in
    let n = number_some c.in_err-gate.field-0.0 in
    let p = err_from_is_err_and c.from_residual.result c.from_residual.ensures.1 in
    let e = rw c.good_step.ensures at c.in_err-gate.ensures in
    rw (p.1, p.2) (room_refused a.a.now a.b.now a.sync.now (a.step ∷ []) (sym e) n)

pub returns-then-few_corners : goal.returns-then-few_corners
unfolding pairs_room_of
returns-then-few_corners c =
    let a = c.args in
    let e = rw c.good_step.ensures at c.in_ok-gate.ensures in
    room_few a.a.now a.b.now a.sync.now (a.step ∷ []) (sym e) refl (sym c.few_corners.ensures ∙ c.if-few_corners.true)

pub returns : goal.returns
unfolding pairs_room_of
returns c =
    let a = c.args in
    let e = rw c.good_step.ensures at c.in_ok-gate.ensures in
    let f = sym c.few_corners.ensures ∙ c.if-few_corners.false in
    room_open a.a.now a.b.now a.sync.now (a.step ∷ []) (sym e) refl f c.ends_of-ends.ensures c.larger_pass-n.ensures c.room_for.ensures
