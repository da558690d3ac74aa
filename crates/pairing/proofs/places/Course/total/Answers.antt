use Rattle.std.proofs.Common.{refl}
use Rattle.std.specs.Float.Ieee.{of_bits}
use Rattle.satinrules.specs.Pairs.{total_of}
use Rattle.pairing.specs.WalkLaws.{centres_next, centres_end}
use Rattle.pairing.proofs.places.Course.total.Goals as goal

pub loop-w-init : goal.loop-w-init
unfolding of_bits total_of
loop-w-init c = rw (c.into_iter-w-iterator.ensures.into_iter_gives, c.of-w-items.ensures) refl

pub loop-w-preserved : goal.loop-w-preserved
loop-w-preserved c =
    let l = c.loop-w in
    let s = c.in-Some.ensures.steps in
    rw c.centre-sum.ensures (centres_next l.sum l.w-iterator c.next.new.self c.in-Some.w.from c.in-Some.w.to s.0 s.1 s.2 l.invariant)

pub returns : goal.returns
returns c = let l = c.loop-w in centres_end l.sum l.w-iterator c.in-None.ensures.steps.0 l.invariant
