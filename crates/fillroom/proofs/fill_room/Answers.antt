-- `fill_room` meets its contract: the gate's number and no room, or the room of the corners and rows. Assumes nothing.
use Rattle.std.proofs.Common.{◌∙◌}
use Rattle.std.proofs.lemmas.Result.{err_from_is_err_and}
use Rattle.finding.specs.Stages.{Gated}
use Rattle.fillroom.specs.RoomLaws.{room_refused, few_corners, few_rows, room_open}
use Rattle.fillroom.proofs.fill_room.Goals as goal

pub returns-in_err-rows : goal.returns-in_err-rows
unfolding Gated
returns-in_err-rows c =
    let a = c.args in
    let e = c.in_err-rows.ensures in
    let p = err_from_is_err_and c.from_residual.result c.from_residual.ensures.1 in
    rw (p.1, p.2) (room_refused a.corners.now a.ends.now a.g a.stagger _ e.0 e.1)

pub room_for-requires : goal.room_for-requires
unfolding Gated
room_for-requires c =
    let a = c.args in
    let h = c.in_ok-rows.ensures in
    (few_corners a.corners.now a.ends.now a.g a.stagger h.0 _ h.1, few_rows a.corners.now a.ends.now a.g a.stagger h.0 _ h.1)

pub returns : goal.returns
unfolding Gated
returns c =
    let a = c.args in
    let h = c.in_ok-rows.ensures in
    c.room_for.ensures ∙ room_open a.corners.now a.ends.now a.g a.stagger h.0 _ h.1
