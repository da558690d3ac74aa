-- Up to point i the lines are put. Assumes nothing.
use native.Mathlib.Omega.{arith}
use Rattle.jobs.proofs.Printed.{points_start, points_next, points_end}
use borrow.Author.Rules.{rules}
use Rattle.jobs.proofs.lines.put_points.Goals as goal

pub loop-i-init : goal.loop-i-init
loop-i-init c = points_start _ _ _ _ _ _ (omega (arith, c.requires)) c.requires.0

pub overflow_mul-i : goal.overflow_mul-i
overflow_mul-i c = omega (arith, c.loop-i-test.true, c.requires.1)

pub offset_bounds-points-i : goal.offset_bounds-points-i
offset_bounds-points-i c = omega (arith, c.loop-i-test.true, c.requires.1)

pub bounds-points-i : goal.bounds-points-i
bounds-points-i c = omega (arith, c.loop-i-test.true, c.requires.1)

pub overflow_mul-i-in-loop-i : goal.overflow_mul-i-in-loop-i
overflow_mul-i-in-loop-i c = omega (arith, c.loop-i-test.true, c.requires.1)

pub overflow_add-i : goal.overflow_add-i
overflow_add-i c = omega (arith, c.loop-i-test.true, c.requires.1)

pub offset_bounds-points-i-in-loop-i : goal.offset_bounds-points-i-in-loop-i
offset_bounds-points-i-in-loop-i c = omega (arith, c.loop-i-test.true, c.requires.1)

pub bounds-points-i-in-loop-i : goal.bounds-points-i-in-loop-i
bounds-points-i-in-loop-i c = omega (arith, c.loop-i-test.true, c.requires.1)

pub put_point-k-requires : goal.put_point-k-requires
put_point-k-requires c = omega (arith, c.loop-i-test.true, c.loop-i.invariant.most, c.loop-i.invariant.low, c.loop-i.invariant.front.len, c.requires.2)

pub loop-i-preserved : goal.loop-i-preserved
loop-i-preserved c = points_next _ _ _ _ _ _ c.loop-i.invariant c.loop-i-test.true (omega (arith, c.loop-i-test.true, c.loop-i.invariant.most, c.loop-i.invariant.low, c.requires.2)) c.put_point-k.ensures.put c.put_point-k.ensures.value.0 c.put_point-k.ensures.value.1

pub shape_of-out : goal.shape_of-out
shape_of-out c = c.loop-i.invariant.front.len

pub returns : goal.returns
returns c = let told = points_end _ _ _ _ _ _ c.loop-i.invariant (search rules) (omega (arith, c.requires.2)) in record { put = told.0; value = told.1 }
