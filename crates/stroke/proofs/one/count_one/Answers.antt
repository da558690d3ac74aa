use mathlib.Core.Path.{◌∙◌}
use lib.ListN.{length, length-append}
use Rattle.seqs.specs.Capped.{capped_on}
use Rattle.geom.specs.Outline.{points}
use Rattle.polyline.specs.Line.{resample_keep_corners}
use Rattle.stroke.specs.Closing.{closing}
use Rattle.stroke.proofs.Closing.{one_pass_lem}
use Rattle.stroke.proofs.one.count_one.Goals as goal

pub returns : goal.returns
returns c =
    let a = c.args in
    let one = resample_keep_corners (points a.line.now) a.len in
    let back = closing a.line.now a.closed a.len in
    c.add_within.ensures ∙ rw (c.count_line.ensures, c.closing_steps.ensures, one_pass_lem a.line.now a.len a.closed, length-append one back) (capped_on a.room (length one) (length back))
