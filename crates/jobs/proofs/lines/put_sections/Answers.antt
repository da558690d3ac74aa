-- Up to section s the lines are put. Assumes nothing.
use native.Mathlib.Omega.{arith}
use Rattle.jobs.proofs.Printed.{sections_start, sections_at, sections_next, sections_end}
use borrow.Author.Rules.{rules}
use Rattle.jobs.proofs.lines.put_sections.Goals as goal

pub loop-s-init : goal.loop-s-init
loop-s-init c = (c.requires.0, sections_start _ _ _ _ _ c.requires.0 c.requires.1 c.requires.2)

pub put_points-k-requires : goal.put_points-k-requires
put_points-k-requires c =
    let a = sections_at _ _ _ _ _ c.loop-s.invariant.0 c.loop-s.invariant.1 c.loop-s-test.true in
    (a.0, a.1, omega (arith, a.0, a.1, c.loop-s.invariant.1.most, c.loop-s.invariant.1.fits, c.loop-s.invariant.1.front.len))

pub loop-s-preserved : goal.loop-s-preserved
loop-s-preserved c = (c.loop-s.invariant.0, sections_next _ _ _ _ _ c.loop-s.invariant.0 c.loop-s.invariant.1 c.loop-s-test.true c.put_points-k.ensures.put c.put_points-k.ensures.value.0 c.put_points-k.ensures.value.1)

pub shape_of-out : goal.shape_of-out
shape_of-out c = c.loop-s.invariant.1.front.len

pub returns : goal.returns
returns c = let told = sections_end _ _ _ _ _ c.loop-s.invariant.0 c.loop-s.invariant.1 (search rules) (omega (arith, c.requires.2)) in record { put = told.0; value = told.1 }
