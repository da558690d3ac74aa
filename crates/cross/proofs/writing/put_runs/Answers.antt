-- `put_runs` meets its contract: the runs of the cells from i on are still to be written. Assumes nothing.
use native.Mathlib.Omega.{arith}
use Prim.Native.Nat.{◌*◌}
use Rattle.seqs.specs.Front.{front_from}
use Rattle.seqs.specs.Wrote.{put_room}
use Rattle.geom.specs.Outline.{rings}
use Rattle.geom.specs.Sewing.{flat}
use Rattle.rules.specs.Calls.{sewn_points, sewn_ends}
use Rattle.rules.specs.CallLaws.{ends_length}
use Rattle.patterns_rules.specs.Patterns.{row_lines}
use Rattle.cross.specs.RowLaws.{lines_start}
use Rattle.cross.specs.ScanLaws.{lines_left}
use Rattle.cross.proofs.Turns.{run_room, run_put, stop_room, stop_put, rows_put}
use borrow.Author.Rules.{rules}
use Rattle.cross.proofs.writing.put_runs.Goals as goal

pub loop-run-init : goal.loop-run-init
loop-run-init c =
    let a = c.args in
    let e = lines_start (rings a.row.badge.outline.corners.now a.row.badge.outline.ends.now) a.row.badge.rule a.row.badge.grid a.row.y in
    (omega arith, rw (← e) (front_from a.out.now (flat (sewn_points (row_lines (rings a.row.badge.outline.corners.now a.row.badge.outline.ends.now) a.row.badge.rule a.row.badge.grid a.row.y))) (2 * a.done.points) (omega (arith, c.requires.0))), rw (← e) (front_from a.stops.now (sewn_ends a.done.points (row_lines (rings a.row.badge.outline.corners.now a.row.badge.outline.ends.now) a.row.badge.rule a.row.badge.grid a.row.y)) a.done.lines (omega (arith, c.requires.1))), search rules, search rules)

pub next_run-requires : goal.next_run-requires
next_run-requires c = c.loop-run.invariant.0

pub overflow_mul-at : goal.overflow_mul-at
overflow_mul-at c = record { fits = omega (arith, c.loop-run.invariant.1.at, c.loop-run.invariant.3) }

pub put_run-requires : goal.put_run-requires
put_run-requires c =
    let a = c.args in let l = c.loop-run in
    (c.in-Some.ensures.high, run_room (rings a.row.badge.outline.corners.now a.row.badge.outline.ends.now) a.row.badge.rule a.row.badge.grid a.row.y c.in-Some.ensures l.at l.invariant.1 (put_room a.out.now (flat (sewn_points (row_lines (rings a.row.badge.outline.corners.now a.row.badge.outline.ends.now) a.row.badge.rule a.row.badge.grid a.row.y))) (2 * a.done.points) c.requires.0))

pub overflow_mul-at-in-Some : goal.overflow_mul-at-in-Some
overflow_mul-at-in-Some c = record { fits = omega (arith, c.in-Some.ensures.high, c.args.row.badge.laid.columns) }

pub overflow_add-at : goal.overflow_add-at
overflow_add-at c =
    let a = c.args in let l = c.loop-run in
    record { fits = omega (arith, l.invariant.1.len, l.invariant.3, run_room (rings a.row.badge.outline.corners.now a.row.badge.outline.ends.now) a.row.badge.rule a.row.badge.grid a.row.y c.in-Some.ensures l.at l.invariant.1 (put_room a.out.now (flat (sewn_points (row_lines (rings a.row.badge.outline.corners.now a.row.badge.outline.ends.now) a.row.badge.rule a.row.badge.grid a.row.y))) (2 * a.done.points) c.requires.0)) }

pub bounds-stops-s : goal.bounds-stops-s
bounds-stops-s c =
    let a = c.args in let l = c.loop-run in
    stop_room (rings a.row.badge.outline.corners.now a.row.badge.outline.ends.now) a.row.badge.rule a.row.badge.grid a.row.y c.in-Some.ensures l.at l.invariant.2 (put_room a.stops.now (sewn_ends a.done.points (row_lines (rings a.row.badge.outline.corners.now a.row.badge.outline.ends.now) a.row.badge.rule a.row.badge.grid a.row.y)) a.done.lines (omega (arith, c.requires.1, ends_length a.done.points (row_lines (rings a.row.badge.outline.corners.now a.row.badge.outline.ends.now) a.row.badge.rule a.row.badge.grid a.row.y))))

pub overflow_add-s : goal.overflow_add-s
overflow_add-s c = record { fits = omega (arith, c.loop-run.invariant.2.at, c.loop-run.invariant.4, c.args.row.badge.laid.columns) }

pub overflow_add-i : goal.overflow_add-i
overflow_add-i c = record { fits = omega (arith, c.in-Some.ensures.high, c.args.row.badge.laid.columns) }

pub loop-run-smaller : goal.loop-run-smaller
loop-run-smaller c = omega (arith, c.in-Some.ensures.low, c.in-Some.ensures.high, c.in-Some.ensures.some)

pub loop-run-preserved : goal.loop-run-preserved
loop-run-preserved c =
    let a = c.args in let l = c.loop-run in
    (c.in-Some.ensures.high, run_put (rings a.row.badge.outline.corners.now a.row.badge.outline.ends.now) a.row.badge.rule a.row.badge.grid a.row.y c.in-Some.ensures l.at l.invariant.1 (put_room a.out.now (flat (sewn_points (row_lines (rings a.row.badge.outline.corners.now a.row.badge.outline.ends.now) a.row.badge.rule a.row.badge.grid a.row.y))) (2 * a.done.points) c.requires.0) _ c.put_run.ensures, stop_put (rings a.row.badge.outline.corners.now a.row.badge.outline.ends.now) a.row.badge.rule a.row.badge.grid a.row.y c.in-Some.ensures l.at l.invariant.2 (put_room a.stops.now (sewn_ends a.done.points (row_lines (rings a.row.badge.outline.corners.now a.row.badge.outline.ends.now) a.row.badge.rule a.row.badge.grid a.row.y)) a.done.lines (omega (arith, c.requires.1, ends_length a.done.points (row_lines (rings a.row.badge.outline.corners.now a.row.badge.outline.ends.now) a.row.badge.rule a.row.badge.grid a.row.y)))), l.invariant.3, l.invariant.4)

pub shape_of-out : goal.shape_of-out
shape_of-out c = c.loop-run.invariant.1.len

pub shape_of-stops : goal.shape_of-stops
shape_of-stops c = c.loop-run.invariant.2.len

pub returns : goal.returns
returns c =
    let a = c.args in let l = c.loop-run in
    rows_put (row_lines (rings a.row.badge.outline.corners.now a.row.badge.outline.ends.now) a.row.badge.rule a.row.badge.grid a.row.y) (lines_left (rings a.row.badge.outline.corners.now a.row.badge.outline.ends.now) a.row.badge.rule a.row.badge.grid a.row.y l.i c.in_default.ensures) l.at l.s a.done.points a.done.lines l.invariant.1 l.invariant.2 (omega (arith, c.requires.0)) (omega (arith, c.requires.1))
