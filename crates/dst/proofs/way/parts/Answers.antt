use Rattle.std.proofs.Common.{arith}
use Rattle.dst.specs.Thread.{parts}
use Rattle.dst.specs.LiftedLaws.{gap_is}
use Rattle.dst.proofs.way.parts.Goals as goal

pub returns : goal.returns
unfolding parts
returns c =
    let a = c.args.a in
    let b = c.args.b in
    rw (gap_is a.x b.x, gap_is a.y b.y) (omega arith, omega arith)
