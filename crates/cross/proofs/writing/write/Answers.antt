-- `write` meets its contract: the rows from r on are still to be written. Assumes nothing.
use native.Mathlib.Omega.{arith}
use mathlib.Core.Path.{ap}
use Rattle.seqs.specs.Front.{front_start, front_at, front_end}
use Rattle.geom.specs.Outline.{rings}
use Rattle.geom.specs.Sewing.{flat}
use Rattle.rules.specs.Calls.{sewn_points, sewn_ends}
use Rattle.rules.specs.CallLaws.{ends_length}
use Rattle.patterns_rules.specs.Patterns.{stitched}
use Rattle.patterns_rules.specs.Answers.{left_points, left_ends}
use Rattle.cross.specs.RowLaws.{rows_start, rows_none}
use Rattle.cross.proofs.Turns.{row_room, row_put, ends_room, ends_put, all_counted}
use borrow.Author.Rules.{rules}
use Rattle.cross.proofs.writing.write.Goals as goal

pub loop-r-init : goal.loop-r-init
loop-r-init c = let a = c.args in
    let e = rows_start (rings a.badge.outline.corners.now a.badge.outline.ends.now) a.badge.rule a.badge.grid in
    (rw (← e) (front_start _ _), rw (← e) (front_start _ _))

pub put_row-done-requires : goal.put_row-done-requires
put_row-done-requires c = let a = c.args in let l = c.loop-r in
    rw c.y_at.ensures (row_room (rings a.badge.outline.corners.now a.badge.outline.ends.now) a.badge.rule a.badge.grid l.r c.loop-r-test.true l.done.points l.invariant.0 c.requires.0, ends_room (rings a.badge.outline.corners.now a.badge.outline.ends.now) a.badge.rule a.badge.grid l.r c.loop-r-test.true l.done.points l.invariant.1 (omega (arith, c.requires.1, ends_length 0 (stitched (rings a.badge.outline.corners.now a.badge.outline.ends.now) a.badge.rule a.badge.grid))))

pub loop-r-preserved : goal.loop-r-preserved
loop-r-preserved c = let a = c.args in let l = c.loop-r in
    let e = rw c.y_at.ensures at c.put_row-done.ensures in
    (row_put (rings a.badge.outline.corners.now a.badge.outline.ends.now) a.badge.rule a.badge.grid l.r c.loop-r-test.true l.done.points l.invariant.0 c.requires.0 _ e.0 _ e.3, ends_put (rings a.badge.outline.corners.now a.badge.outline.ends.now) a.badge.rule a.badge.grid l.r c.loop-r-test.true l.done.points l.invariant.1 (omega (arith, c.requires.1, ends_length 0 (stitched (rings a.badge.outline.corners.now a.badge.outline.ends.now) a.badge.rule a.badge.grid))) _ e.1 _ _ e.2 e.3)

pub shape_of-out : goal.shape_of-out
shape_of-out c = c.loop-r.invariant.0.len

pub shape_of-stops : goal.shape_of-stops
shape_of-stops c = c.loop-r.invariant.1.len

pub returns : goal.returns
unfolding flat left_ends left_points sewn_ends sewn_points
returns c = let a = c.args in let l = c.loop-r in
    let n = rows_none (rings a.badge.outline.corners.now a.badge.outline.ends.now) a.badge.rule a.badge.grid l.r (search rules) in
    let x = front_at (ap (λ ls. flat (sewn_points ls)) n) l.invariant.0 in
    let y = front_at (ap (sewn_ends l.done.points) n) l.invariant.1 in
    (all_counted (stitched (rings a.badge.outline.corners.now a.badge.outline.ends.now) a.badge.rule a.badge.grid) l.done x y, front_end x, front_end y)
