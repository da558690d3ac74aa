use native.Mathlib.Omega.{arith}
use Rattle.geom.specs.Outline.{points}
use Rattle.geom.specs.OutlineLaws.{points_length}
use Rattle.outlines.specs.Runs.{lows}
use Rattle.outlines.proofs.Loops.{lows_few, none_of_them, all_of_them}
use Rattle.outlines.proofs.winding.one_side.Goals as goal

pub overflow_add-c : goal.overflow_add-c
unfolding lows
overflow_add-c c =
    let m = rw (c.in-Some.ensures.steps, c.if-a-y.true) at c.loop-a.invariant in
    omega (arith, lows_few c.args.y (points c.args.l.now), points_length c.args.l.now)

pub loop-a-preserved-then-a-y : goal.loop-a-preserved-then-a-y
unfolding lows
loop-a-preserved-then-a-y c =
    let m = rw (c.in-Some.ensures.steps, c.if-a-y.true) at c.loop-a.invariant in omega arith

pub loop-a-preserved : goal.loop-a-preserved
unfolding lows
loop-a-preserved c =
    let m = rw (c.in-Some.ensures.steps, c.if-a-y.false) at c.loop-a.invariant in omega arith

pub returns-then-c-eq0 : goal.returns-then-c-eq0
unfolding lows
returns-then-c-eq0 c =
    let m = rw c.in-None.ensures.steps.0 at c.loop-a.invariant in
    none_of_them c.args.y c.args.l.now (omega arith)

pub returns : goal.returns
unfolding lows
returns c =
    let m = rw c.in-None.ensures.steps.0 at c.loop-a.invariant in
    all_of_them c.args.y c.args.l.now c.loop-a.c (omega arith) c.if-c-eq0.false
