-- How many whole numbers lie between two. Assumes nothing.
use Rattle.rules.specs.Fill.{how_many}
use Rattle.sewing.proofs.Signs.{read, capped_min, reach_none, reach_some}
use Rattle.sewing.proofs.row.reach.Goals as goal

pub returns-then-hi-lo : goal.returns-then-hi-lo
returns-then-hi-lo c =
    let p = read c.args.lo c.ranges.lo in
    let q = read c.args.hi c.ranges.hi in
    reach_none c.args.lo c.args.hi (rw (p, q) at c.if-hi-lo.true)

pub returns : goal.returns
returns c =
    let p = read c.args.lo c.ranges.lo in
    let q = read c.args.hi c.ranges.hi in
    let e = reach_some c.args.lo c.args.hi (rw (p, q) at c.if-hi-lo.false) in
    rw (c.min.ensures, c.saturating_add.ensures, rw (p, q) at c.abs_diff.ensures, ← e) (capped_min (how_many c.args.lo c.args.hi))
