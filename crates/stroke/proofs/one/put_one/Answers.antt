-- `put_one` meets its contract: the line, and the closing piece after it. Assumes nothing.
use mathlib.Core.Path.{ap, ◌∙◌}
use native.Mathlib.Omega.{arith}
use lib.ListN.{length}
use Rattle.seqs.specs.Put.{put_then, put_length}
use Rattle.geom.specs.Outline.{points}
use Rattle.geom.specs.Sewing.{flat}
use Rattle.polyline.specs.Line.{resample_keep_corners}
use Rattle.stroke.specs.Closing.{closing}
use Rattle.stroke.proofs.Closing.{one_flat, one_size}
use Rattle.stroke.proofs.one.put_one.Goals as goal

pub put_line-k-requires : goal.put_line-k-requires
put_line-k-requires c = omega (arith, c.requires, one_size c.args.line.now c.args.len c.args.closed)

pub put_closing-requires : goal.put_closing-requires
put_closing-requires c =
    let a = c.args in
    let s = one_size a.line.now a.len a.closed in
    let e = ap length c.put_line-k.ensures.0 ∙ put_length a.out.now (flat (resample_keep_corners (points a.line.now) a.len)) 0 (omega (arith, s, c.requires)) in
    omega (arith, s, e, c.requires, c.put_line-k.ensures.1)

pub returns : goal.returns
returns c =
    let a = c.args in
    let s = one_size a.line.now a.len a.closed in
    rw (one_flat a.line.now a.len a.closed) (put_then a.out.now _ _ (flat (resample_keep_corners (points a.line.now) a.len)) (flat (closing a.line.now a.closed a.len)) 0 c.put_line-k.result (omega (arith, s, c.requires)) c.put_line-k.ensures.0 c.put_line-k.ensures.1 c.put_closing.ensures)
