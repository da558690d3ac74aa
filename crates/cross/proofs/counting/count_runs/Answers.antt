-- `count_runs` meets its contract: the runs of the cells from i on are still to be counted. Assumes nothing.
use native.Mathlib.Omega.{arith}
use mathlib.Core.Path.{◌≡◌, ap}
use lib.ListN.{length}
use Rattle.geom.specs.Outline.{rings}
use Rattle.rules.specs.Calls.{sewn_points}
use Rattle.patterns_rules.specs.Patterns.{row_lines}
use Rattle.patterns_rules.specs.Answers.{count_of}
use Rattle.cross.specs.RowLaws.{lines_start}
use Rattle.cross.specs.ScanLaws.{lines_left, lines_more, points_more}
use borrow.Author.Rules.{rules}
use Rattle.cross.proofs.counting.count_runs.Goals as goal

pub loop-run-init : goal.loop-run-init
loop-run-init c =
    let a = c.args in
    let e = lines_start (rings a.row.badge.outline.corners.now a.row.badge.outline.ends.now) a.row.badge.rule a.row.badge.grid a.row.y in
    (omega arith, search rules, search rules, rw e (omega arith), rw e (omega arith))

pub next_run-requires : goal.next_run-requires
next_run-requires c = c.loop-run.invariant.0

pub overflow_add-s : goal.overflow_add-s
overflow_add-s c = record { fits = omega (arith, c.loop-run.invariant.0, c.loop-run.invariant.1, c.args.row.badge.laid.columns) }

pub overflow_mul-at : goal.overflow_mul-at
overflow_mul-at c = record { fits = omega (arith, c.in-Some.ensures.high, c.args.row.badge.laid.columns) }

pub overflow_add-at : goal.overflow_add-at
overflow_add-at c = record { fits = omega (arith, c.in-Some.ensures.low, c.in-Some.ensures.high, c.loop-run.invariant.2, c.args.row.badge.laid.columns) }

pub overflow_add-i : goal.overflow_add-i
overflow_add-i c = record { fits = omega (arith, c.in-Some.ensures.high, c.args.row.badge.laid.columns) }

pub loop-run-smaller : goal.loop-run-smaller
loop-run-smaller c = omega (arith, c.in-Some.ensures.low, c.in-Some.ensures.high, c.in-Some.ensures.some)

pub loop-run-preserved : goal.loop-run-preserved
loop-run-preserved c =
    let a = c.args in let l = c.loop-run in
    let n = lines_more (rings a.row.badge.outline.corners.now a.row.badge.outline.ends.now) a.row.badge.rule a.row.badge.grid a.row.y c.in-Some.ensures in
    let m = points_more (rings a.row.badge.outline.corners.now a.row.badge.outline.ends.now) a.row.badge.rule a.row.badge.grid a.row.y c.in-Some.ensures in
    (c.in-Some.ensures.high, omega (arith, c.in-Some.ensures.low, l.invariant.1, c.in-Some.ensures.some), omega (arith, c.in-Some.ensures.low, l.invariant.2), omega (arith, n, l.invariant.3), omega (arith, m, l.invariant.4))

pub returns : goal.returns
unfolding count_of
returns c =
    let a = c.args in let l = c.loop-run in
    let n = lines_left (rings a.row.badge.outline.corners.now a.row.badge.outline.ends.now) a.row.badge.rule a.row.badge.grid a.row.y l.i c.in_default.ensures in
    let x : l.s ≡ length (row_lines (rings a.row.badge.outline.corners.now a.row.badge.outline.ends.now) a.row.badge.rule a.row.badge.grid a.row.y) = omega (arith, ap length n, l.invariant.3) in
    let y : l.at ≡ length (sewn_points (row_lines (rings a.row.badge.outline.corners.now a.row.badge.outline.ends.now) a.row.badge.rule a.row.badge.grid a.row.y)) = unfold sewn_points in omega (arith, ap (λ ls. length (sewn_points ls)) n, l.invariant.4) in
    (rw (x, y), omega (arith, l.invariant.0, l.invariant.1, c.args.row.badge.laid.columns), omega (arith, l.invariant.0, l.invariant.2, c.args.row.badge.laid.columns))
