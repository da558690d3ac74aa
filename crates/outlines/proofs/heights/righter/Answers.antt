use mathlib.Core.Path.{◌≡◌}
use mathlib.Core.Bool.{true}
use lib.Ieee.{le, div, of_bits}
use Rattle.outlines.proofs.Blocks.{right_stays, right_moves, right_nan}
use Rattle.outlines.proofs.heights.righter.Goals as goal

pub returns-then-x-right : goal.returns-then-x-right
returns-then-x-right c =
    let before : le c.args.x c.args.right ≡ true = c.if-x-right.true in
    right_stays c.args.right c.args.x c.args.y (c.near.ensures c.if-near.true) (c.near-then-near.ensures c.if-near-2.true) before

pub returns-then-right-x : goal.returns-then-right-x
returns-then-right-x c =
    let past : le c.args.right c.args.x ≡ true = c.if-right-x.true in
    right_moves c.args.right c.args.x c.args.y (c.near.ensures c.if-near.true) (c.near-then-near.ensures c.if-near-2.true) past

pub returns : goal.returns
unfolding div of_bits
returns c = right_nan c.args.right c.args.x c.args.y
