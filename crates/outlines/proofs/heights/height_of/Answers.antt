use Rattle.geom.specs.Outline.{points}
use Rattle.outlines.proofs.Blocks.{tried_start, tried_next, tried_end}
use Rattle.outlines.proofs.heights.height_of.Goals as goal

pub loop-a-init : goal.loop-a-init
loop-a-init c = rw (c.into_iter-a-iterator.ensures.into_iter_gives, c.of-a-items.ensures) (tried_start (points c.args.l.now) _ _ _)

pub loop-a-preserved : goal.loop-a-preserved
loop-a-preserved c =
    let l = c.loop-a in
    tried_next (points c.args.l.now) c.next.new.self c.in-Some.a l.lo l.hi l.right _ _ _ c.lower-lo.ensures c.higher-hi.ensures c.righter-right.ensures (rw c.in-Some.ensures.steps at l.invariant)

pub returns : goal.returns
returns c =
    let l = c.loop-a in
    tried_end (points c.args.l.now) l.lo l.hi l.right (rw c.in-None.ensures.steps.0 at l.invariant)
