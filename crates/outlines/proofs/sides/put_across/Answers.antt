use mathlib.Core.Path.{◌≡◌}
use mathlib.Core.Bool.{true, false}
use native.Mathlib.Omega.{arith}
use lib.Ieee.{le}
use Rattle.seqs.specs.Wrote.{wrote_none}
use Rattle.outlines.specs.Sides.{across}
use Rattle.outlines.proofs.sides.put_across.Goals as goal

pub returns-then-b-y : goal.returns-then-b-y
unfolding across
returns-then-b-y c =
    let first : le c.args.a.y c.args.y ≡ true = c.if-a-y.true in
    let second : le c.args.b.y c.args.y ≡ true = c.if-b-y.true in
    rw (first, second) (wrote_none _ _, omega arith, omega arith)

pub returns-then-a-y : goal.returns-then-a-y
unfolding across
returns-then-a-y c =
    let first : le c.args.a.y c.args.y ≡ true = c.if-a-y.true in
    let second : le c.args.b.y c.args.y ≡ false = c.if-b-y.false in
    rw (first, second) (c.put_side.ensures.0, c.put_side.ensures.1, omega (arith, c.put_side.ensures.1))

pub returns-then-b-y-2 : goal.returns-then-b-y-2
unfolding across
returns-then-b-y-2 c =
    let first : le c.args.a.y c.args.y ≡ false = c.if-a-y.false in
    let second : le c.args.b.y c.args.y ≡ true = c.if-b-y-2.true in
    rw (first, second) (c.put_side-then-b-y-2.ensures.0, c.put_side-then-b-y-2.ensures.1, omega (arith, c.put_side-then-b-y-2.ensures.1))

pub returns : goal.returns
unfolding across
returns c =
    let first : le c.args.a.y c.args.y ≡ false = c.if-a-y.false in
    let second : le c.args.b.y c.args.y ≡ false = c.if-b-y-2.false in
    rw (first, second) (wrote_none _ _, omega arith, omega arith)
