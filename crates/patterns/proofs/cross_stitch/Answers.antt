-- `cross_stitch` meets its contract: the grid that was counted is the definition's, or too large. Assumes nothing.
use mathlib.Core.Path.{refl, sym, ◌∙◌}
use borrow.Author.Tests.{leb-true, leb-false}
use Rattle.std.proofs.lemmas.Result.{err_from_is_err_and}
use Rattle.patterns_rules.specs.Patterns.{cross_stitch}
use Rattle.patterns_rules.specs.Answers.{cross_refusal, cross_said, cross_points, cross_ends, said_lines, left_points, left_ends}
use Rattle.patterns.proofs.Sized.{too_wide, too_tall, grid_is, good, is_laid}
use Rattle.patterns.proofs.cross_stitch.Goals as goal

pub returns-in_err-unless-3 : goal.returns-in_err-unless-3
unfolding cross_ends cross_points cross_refusal cross_said left_ends left_points said_lines
returns-in_err-unless-3 c =
    let a = c.args in
    let o = c.in_ok-laid.ensures.2 in
    let p = err_from_is_err_and c.from_residual-in_err-unless-3.result c.from_residual-in_err-unless-3.ensures.1 in
    let e = c.in_err-unless-3.ensures in
    let wide = too_wide a.corners.now a.ends.now a.cell o c.grid_of-grid.ensures (leb-false c.grid_of-grid.result.columns 4096 e.1) in
    rw (p.1, p.2, e.0, o, sym c.good_numbers.ensures ∙ c.in_ok-unless.ensures, sym c.good_cell.ensures ∙ c.in_ok-unless-2.ensures, wide) (refl, refl, refl)

pub returns-in_err-unless-4 : goal.returns-in_err-unless-4
unfolding cross_ends cross_points cross_refusal cross_said left_ends left_points said_lines
returns-in_err-unless-4 c =
    let a = c.args in
    let o = c.in_ok-laid.ensures.2 in
    let p = err_from_is_err_and c.from_residual-in_err-unless-4.result c.from_residual-in_err-unless-4.ensures.1 in
    let e = c.in_err-unless-4.ensures in
    let tall = too_tall a.corners.now a.ends.now a.cell o c.grid_of-grid.ensures (leb-false c.grid_of-grid.result.rows 4096 e.1) in
    rw (p.1, p.2, e.0, o, sym c.good_numbers.ensures ∙ c.in_ok-unless.ensures, sym c.good_cell.ensures ∙ c.in_ok-unless-2.ensures, tall) (refl, refl, refl)

pub invariant_of-badge : goal.invariant_of-badge
invariant_of-badge c =
    let a = c.args in let g = c.grid_of-grid.result in
    record { laid = is_laid a.corners.now a.ends.now a.cell c.in_ok-laid.ensures.2 c.grid_of-grid.ensures (leb-true g.columns 4096 c.in_ok-unless-3.ensures) (leb-true g.rows 4096 c.in_ok-unless-4.ensures) }

pub returns : goal.returns
unfolding cross_ends cross_points cross_refusal cross_said cross_stitch
returns c =
    let a = c.args in let g = c.grid_of-grid.result in
    let l = c.in_ok-laid.ensures in
    let wide = leb-true g.columns 4096 c.in_ok-unless-3.ensures in
    let tall = leb-true g.rows 4096 c.in_ok-unless-4.ensures in
    let w = rw (l.0, l.1, grid_is a.corners.now a.ends.now a.cell l.2 c.grid_of-grid.ensures wide tall) at c.on_grid.ensures in
    rw (l.2, sym c.good_numbers.ensures ∙ c.in_ok-unless.ensures, sym c.good_cell.ensures ∙ c.in_ok-unless-2.ensures, good a.corners.now a.ends.now a.cell l.2 c.grid_of-grid.ensures wide tall) (w.says, w.points, w.ends)
