use mathlib.Core.Path.{◌≡◌}
use mathlib.Core.Bool.{true}
use lib.Ieee.{le, div, of_bits}
use Rattle.outlines.proofs.Blocks.{lower_stays, lower_moves, lower_nan}
use Rattle.outlines.proofs.heights.lower.Goals as goal

pub returns-then-lo-y : goal.returns-then-lo-y
returns-then-lo-y c =
    let below : le c.args.lo c.args.y ≡ true = c.if-lo-y.true in
    lower_stays c.args.lo c.args.y below

pub returns-then-y-lo : goal.returns-then-y-lo
returns-then-y-lo c =
    let above : le c.args.y c.args.lo ≡ true = c.if-y-lo.true in
    lower_moves c.args.lo c.args.y above

pub returns : goal.returns
unfolding div of_bits
returns c = lower_nan c.args.lo c.args.y
