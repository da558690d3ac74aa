-- The gate, the pieces, and what was found. Assumes nothing.
use Rattle.std.proofs.Common.{rules, length}
use Rattle.std.proofs.lemmas.Result.{err_from_is_err_and}
use Rattle.finding.specs.Stages.{Planned}
use Rattle.finding.specs.FindLaws.{passed}
use Rattle.tatami.specs.RoomLaws.{handed, told_is}
use Rattle.tatami.specs.Outcomes.{list_refused, list_done}
use Rattle.tatami.proofs.row_list.Goals as goal

pub returns-in_err-passed : goal.returns-in_err-passed
unfolding Planned
returns-in_err-passed c =
    let a = c.args in
    let p = err_from_is_err_and c.from_residual.result c.from_residual.ensures.1 in
    list_refused a.corners.now a.ends.now a.rule a.g a.stagger a.upward a.ys.now a.floats.now a.rows.now a.sections.now a.wholes.now _ p.1 (rw p.2 c.in_err-passed.ensures)

pub list_found-requires : goal.list_found-requires
list_found-requires c = let t = c.in_ok-passed.passed in handed t.outline.corners.now t.outline.ends.now t _ _ c.find-found.ensures (passed t)

pub returns : goal.returns
unfolding Planned
returns c =
    let a = c.args in
    let t = c.in_ok-passed.passed in
    let p = c.in_ok-passed.ensures in
    let n = told_is t.outline.corners.now t.outline.ends.now t _ _ c.find-found.ensures (length a.floats.now) (length a.wholes.now) (search rules) (search rules) _ in
    rw (p.corners_are, p.ends_are, p.ruled, p.set, p.staggered, p.up) at (list_done t.outline.corners.now t.outline.ends.now t.rule t.g t.stagger t.upward a.ys.now a.floats.now a.rows.now a.sections.now a.wholes.now c.find-found.new.floats c.find-found.new.wholes c.find-found.result t.accepted (search rules) (search rules) n c.list_found.ensures)
