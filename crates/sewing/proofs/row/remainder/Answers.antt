-- The never-negative remainder. Assumes nothing.
use Rattle.std.proofs.Common.{arith, pos, ◌∙◌}
use Rattle.rules.specs.Fill.{rem_euclid}
use Rattle.rules.proofs.Stitches.{rem_below}
use Rattle.sewing.proofs.Signs.{read, cast, rem_is}
use Rattle.sewing.proofs.row.remainder.Goals as goal

pub returns : goal.returns
returns c =
    let a = c.args in
    let e = rw (read a.k c.ranges.k, cast a.cycle (omega arith)) at c.rem_euclid.ensures.value ∙ rem_is a.k a.cycle in
    rw (e, read (pos (rem_euclid a.k a.cycle)) (record { sfits = omega (arith, rem_below a.k a.cycle c.requires.0) }))
