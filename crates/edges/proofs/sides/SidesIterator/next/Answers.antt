use Rattle.std.proofs.Common.{◌/◌, length, refl}
use Rattle.edges.specs.SidesLaws.{walk_none, walk_on, rising_on}
use Rattle.edges.proofs.sides.SidesIterator.next.Goals as goal

pub returns-in_err-end-clause-steps : goal.returns-in_err-end-clause-steps
returns-in_err-end-clause-steps c =
    let s = c.loop-side.self-inside in
    let k = c.in_err-end.ensures.cases in
    let r = c.in_default.ensures.steps in
    rw c.from_residual.ensures (walk_none s.g s.begun s.ends.now s.outline.corners.now c.loop-side.invariant.0 r.0 k, walk_none s.g s.begun s.ends.now s.outline.corners.now refl r.1 k)

pub part-requires : goal.part-requires
part-requires c =
    let s = c.loop-side.self-inside in
    let t = rising_on s.g s.begun (length s.outline.corners.now / 2) c.loop-side.invariant.1 c.in_ok-end.ensures.cases.0 in
    (t.0, t.1)

pub loop-side-preserved : goal.loop-side-preserved
loop-side-preserved c =
    let s = c.loop-side.self-inside in
    let k = c.in_ok-end.ensures.cases.0 in
    let t = rising_on s.g s.begun (length s.outline.corners.now / 2) c.loop-side.invariant.1 k in
    (rw (c.of-self-inside.ensures, c.part.ensures) (walk_on s.g s.begun s.ends.now s.outline.corners.now c.loop-side.invariant.0 c.in_default.ensures.steps.0 k), t.2)
