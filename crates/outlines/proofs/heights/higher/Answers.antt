use mathlib.Core.Path.{◌≡◌}
use mathlib.Core.Bool.{true}
use lib.Ieee.{le, div, of_bits}
use Rattle.outlines.proofs.Blocks.{higher_stays, higher_moves, higher_nan}
use Rattle.outlines.proofs.heights.higher.Goals as goal

pub returns-then-y-hi : goal.returns-then-y-hi
returns-then-y-hi c =
    let above : le c.args.y c.args.hi ≡ true = c.if-y-hi.true in
    higher_stays c.args.hi c.args.y above

pub returns-then-hi-y : goal.returns-then-hi-y
returns-then-hi-y c =
    let below : le c.args.hi c.args.y ≡ true = c.if-hi-y.true in
    higher_moves c.args.hi c.args.y below

pub returns : goal.returns
unfolding div of_bits
returns c = higher_nan c.args.hi c.args.y
