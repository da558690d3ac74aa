-- `count` meets its contract: the rows from r on are still to be counted. Assumes nothing.
use native.Mathlib.Omega.{arith}
use mathlib.Core.Path.{◌≡◌, ap, ◌∙◌}
use Prim.Native.Nat.{◌+◌}
use lib.ListN.{length, length-append}
use Rattle.geom.specs.Outline.{rings}
use Rattle.rules.specs.Calls.{sewn_points}
use Rattle.patterns_rules.specs.Patterns.{y_at, row_lines, stitched}
use Rattle.patterns_rules.specs.Answers.{count_of}
use Rattle.patterns_rules.specs.LineLaws.{points_append}
use Rattle.cross.specs.RowLaws.{rows_in, rows_start, rows_next, rows_none}
use borrow.Author.Rules.{rules}
use Rattle.cross.proofs.counting.count.Goals as goal

pub loop-r-init : goal.loop-r-init
loop-r-init c = let a = c.args in
    let e = rows_start (rings a.badge.outline.corners.now a.badge.outline.ends.now) a.badge.rule a.badge.grid in
    (search rules, search rules, rw e (omega arith), rw e (omega arith))

pub overflow_add-s : goal.overflow_add-s
overflow_add-s c = record { fits = omega (arith, c.count_row-c.ensures.1, c.loop-r.invariant.0, c.args.badge.laid.rows, c.loop-r-test.true) }

pub overflow_add-at : goal.overflow_add-at
overflow_add-at c = record { fits = omega (arith, c.count_row-c.ensures.2, c.loop-r.invariant.1, c.args.badge.laid.rows, c.loop-r-test.true) }

pub loop-r-preserved : goal.loop-r-preserved
unfolding count_of
loop-r-preserved c = let a = c.args in let l = c.loop-r in
    let e = rw c.y_at.ensures at c.count_row-c.ensures.0 in
    let row = row_lines (rings a.badge.outline.corners.now a.badge.outline.ends.now) a.badge.rule a.badge.grid (y_at a.badge.grid l.r) in
    let rest = rows_in (rings a.badge.outline.corners.now a.badge.outline.ends.now) a.badge.rule a.badge.grid (l.r + 1) in
    let n = rows_next (rings a.badge.outline.corners.now a.badge.outline.ends.now) a.badge.rule a.badge.grid l.r c.loop-r-test.true in
    let x = ap length n ∙ length-append row rest in
    let y = ap (λ ls. length (sewn_points ls)) n ∙ ap length (points_append row rest) ∙ length-append (sewn_points row) (sewn_points rest) in
    let u = ap (λ c. c.lines) e in
    let v = ap (λ c. c.points) e in
    (omega (arith, c.count_row-c.ensures.1, l.invariant.0), omega (arith, c.count_row-c.ensures.2, l.invariant.1), omega (arith, x, u, l.invariant.2), omega (arith, y, v, l.invariant.3))

pub returns : goal.returns
unfolding count_of
returns c = let a = c.args in let l = c.loop-r in
    let n = rows_none (rings a.badge.outline.corners.now a.badge.outline.ends.now) a.badge.rule a.badge.grid l.r (search rules) in
    let x : l.s ≡ length (stitched (rings a.badge.outline.corners.now a.badge.outline.ends.now) a.badge.rule a.badge.grid) = omega (arith, ap length n, l.invariant.2) in
    let y : l.at ≡ length (sewn_points (stitched (rings a.badge.outline.corners.now a.badge.outline.ends.now) a.badge.rule a.badge.grid)) = unfold sewn_points in omega (arith, ap (λ ls. length (sewn_points ls)) n, l.invariant.3) in
    rw (x, y)
