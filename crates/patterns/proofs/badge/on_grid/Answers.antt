-- `on_grid` meets its contract: what is counted is what the room is compared with. Assumes nothing.
use native.Mathlib.Omega.{arith}
use lib.ListN.{length}
use Rattle.std.proofs.lemmas.Result.{err_from_is_err_and}
use Rattle.geom.specs.Rings.{rings_of}
use Rattle.patterns_rules.specs.Patterns.{stitched}
use Rattle.patterns_rules.specs.Answers.{count_of}
use Rattle.patterns_rules.specs.LineLaws.{points_fit, lines_sewn, no_lines_sewn}
use Rattle.patterns.proofs.Sized.{cells_few, points_within, lines_within}
use Rattle.patterns.proofs.badge.on_grid.Goals as goal

pub overflow_mul-cells : goal.overflow_mul-cells
overflow_mul-cells c = record { fits = omega (arith, cells_few c.args.badge.grid c.args.badge.laid) }

pub write-requires : goal.write-requires
write-requires c =
    let b = c.args.badge in let r = rings_of b.outline in
    (points_fit (stitched r b.rule b.grid) (length c.args.out.now) (length c.args.stops.now) (points_within r b.rule b.grid (length c.args.out.now) c.if-cells-out.true), lines_within r b.rule b.grid (length c.args.stops.now) c.if-cells-stops.true)

pub returns-then-cells-stops : goal.returns-then-cells-stops
returns-then-cells-stops c =
    let b = c.args.badge in let r = rings_of b.outline in
    lines_sewn (stitched r b.rule b.grid) (points_within r b.rule b.grid (length c.args.out.now) c.if-cells-out.true) (lines_within r b.rule b.grid (length c.args.stops.now) c.if-cells-stops.true) c.write.ensures.0 c.write.ensures.1 c.write.ensures.2

pub returns-in_err-fits : goal.returns-in_err-fits
unfolding count_of
returns-in_err-fits c =
    let b = c.args.badge in
    let p = err_from_is_err_and c.from_residual.result c.from_residual.ensures.1 in
    let m = rw c.count.ensures at c.in_err-fits.ensures in
    rw (p.1, p.2) (no_lines_sewn (stitched (rings_of b.outline) b.rule b.grid) m.1 m.0)

pub write-requires-2 : goal.write-requires-2
unfolding count_of
write-requires-2 c =
    let b = c.args.badge in
    let m = rw c.count.ensures at c.in_ok-fits.ensures in
    (points_fit (stitched (rings_of b.outline) b.rule b.grid) (length c.args.out.now) (length c.args.stops.now) m.0, m.1)

pub returns : goal.returns
unfolding count_of
returns c =
    let b = c.args.badge in
    let m = rw c.count.ensures at c.in_ok-fits.ensures in
    lines_sewn (stitched (rings_of b.outline) b.rule b.grid) m.0 m.1 c.write-2.ensures.0 c.write-2.ensures.1 c.write-2.ensures.2
