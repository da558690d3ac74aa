use mathlib.Core.Path.{◌≡◌}
use mathlib.Core.Bool.{true, false}
use lib.Ieee.{of_bits, round, lt}
use Rattle.numbers.specs.Num.{literal}
use Rattle.geom.specs.Point.{norm, tiny}
use Rattle.geom.proofs.point.P.towards.Goals as goal

pub returns-then-l : goal.returns-then-l
unfolding norm tiny literal round of_bits
returns-then-l c =
    let long : lt tiny c.args.l ≡ true = c.if-l.true in
    rw (c.times.ensures, ← c.requires, long)

pub returns : goal.returns
unfolding norm tiny literal round of_bits
returns c =
    let short : lt tiny c.args.l ≡ false = c.if-l.false in
    rw (← c.requires, short)
