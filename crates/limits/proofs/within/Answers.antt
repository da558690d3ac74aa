use mathlib.Core.Path.{◌≡◌}
use mathlib.Core.Bool.{true, false}
use lib.Ieee.{le}
use Rattle.limits.specs.Limits.{within}
use Rattle.limits.proofs.within.Goals as goal

pub returns-then-lo-x : goal.returns-then-lo-x
unfolding within
returns-then-lo-x c =
    let above : le c.args.lo c.args.x ≡ true = c.if-lo-x.true in
    rw above

pub returns : goal.returns
unfolding within
returns c =
    let below : le c.args.lo c.args.x ≡ false = c.if-lo-x.false in
    rw below
