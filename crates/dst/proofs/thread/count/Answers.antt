-- `count` meets its contract: the records so far and those of the points to come come to the answer. Assumes nothing.
use mathlib.Core.Path.{◌≡◌, refl, sym, ap, ◌∙◌}
use mathlib.Core.List.{◌∷◌}
use Prim.Native.Nat.{◌+◌}
use native.Mathlib.Omega.{arith}
use lib.ListN.{length}
use Rattle.seqs.specs.Lists.{every}
use Rattle.seqs.specs.Slices.{capped}
use Rattle.seqs.specs.Capped.{capped_small, capped_on, capped_still}
use Rattle.seqs.specs.Tests.{and_both}
use Rattle.limits.specs.Limits.{good_point}
use Rattle.dst.specs.Thread.{thread}
use Rattle.dst.specs.ThreadLaws.{thread_count}
use Rattle.dst.specs.Lifted.{standing}
use Rattle.dst.proofs.ThreadSteps.{good_points}
use Rattle.dst.proofs.thread.count.Goals as goal

pub loop-p-init : goal.loop-p-init
loop-p-init c = rw (c.into_iter-p-iterator.ensures.into_iter_gives, c.of-p-items.ensures, c.origin-from.ensures) (omega arith, good_points c.args.points.now c.requires.0, refl)

pub of-to-requires : goal.of-to-requires
of-to-requires c = (and_both (good_point c.in-Some.p) (every good_point c.next.new.self) (rw c.in-Some.ensures.steps at c.loop-p.invariant.1)).0

pub loop-p-preserved : goal.loop-p-preserved
loop-p-preserved c =
    let a = c.args in
    let l = c.loop-p in
    let i = rw c.in-Some.ensures.steps at l.invariant in
    let rest = length (thread (standing c.of-to.result) c.next.new.self) in
    let t = thread_count (standing l.from) c.in-Some.p c.next.new.self in
    let e : l.c + c.parts.result + rest ≡ l.c + length (thread (standing l.from) (c.in-Some.p ∷ c.next.new.self)) = omega (arith, rw (← c.of-to.ensures) at t, c.parts.ensures.0) in
    rw c.add_within-c.ensures (capped_small a.room (l.c + c.parts.result), (and_both (good_point c.in-Some.p) (every good_point c.next.new.self) i.1).1, capped_on a.room (l.c + c.parts.result) rest ∙ ap (capped a.room) e ∙ i.2)

pub returns : goal.returns
unfolding thread
returns c =
    let l = c.loop-p in
    let i = rw c.in-None.ensures.steps.0 at l.invariant in
    let e : l.c ≡ l.c + 0 = omega arith in
    sym (capped_still c.args.room l.c i.0) ∙ ap (capped c.args.room) e ∙ i.2
