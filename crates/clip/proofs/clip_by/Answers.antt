-- `clip_by` meets its contract: what is counted is what the room is compared with. Assumes nothing.
use native.Mathlib.Omega.{arith}
use lib.ListN.{length}
use Rattle.patterns_rules.specs.Answers.{count_of}
use Rattle.patterns_rules.specs.LineLaws.{points_fit, lines_sewn, no_lines_sewn}
use Rattle.std.proofs.lemmas.Result.{err_from_is_err_and}
use Rattle.clip.specs.Clip.{clipped_in}
use Rattle.clip.specs.ClipLaws.{clip_most}
use Rattle.clip.proofs.clip_by.Goals as goal

pub write-requires : goal.write-requires
write-requires c =
    let a = c.args in let o = a.area.outline in
    let m = clip_most a.line.now o.corners.now o.ends.now a.area.rule in
    (points_fit (clipped_in a.line.now a.area) (length a.out.now) (length a.stops.now) (omega (arith, m.0, c.if-n-out.true)), omega (arith, m.1, c.if-n-stops.true))

pub returns-then-n-stops : goal.returns-then-n-stops
returns-then-n-stops c =
    let a = c.args in let o = a.area.outline in
    let m = clip_most a.line.now o.corners.now o.ends.now a.area.rule in
    lines_sewn (clipped_in a.line.now a.area) (omega (arith, m.0, c.if-n-out.true)) (omega (arith, m.1, c.if-n-stops.true)) c.write.ensures.0 c.write.ensures.1 c.write.ensures.2

pub returns-in_err-fits : goal.returns-in_err-fits
unfolding count_of
returns-in_err-fits c =
    let p = err_from_is_err_and c.from_residual.result c.from_residual.ensures.1 in
    let m = rw c.count.ensures at c.in_err-fits.ensures in
    rw (p.1, p.2) (no_lines_sewn (clipped_in c.args.line.now c.args.area) m.1 m.0)

pub write-requires-2 : goal.write-requires-2
unfolding count_of
write-requires-2 c =
    let a = c.args in
    let m = rw c.count.ensures at c.in_ok-fits.ensures in
    (points_fit (clipped_in a.line.now a.area) (length a.out.now) (length a.stops.now) m.0, m.1)

pub returns : goal.returns
unfolding count_of
returns c =
    let m = rw c.count.ensures at c.in_ok-fits.ensures in
    lines_sewn (clipped_in c.args.line.now c.args.area) m.0 m.1 c.write-2.ensures.0 c.write-2.ensures.1 c.write-2.ensures.2
