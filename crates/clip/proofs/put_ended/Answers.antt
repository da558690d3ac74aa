-- `put_ended` meets its contract. Assumes nothing.
use native.Mathlib.Omega.{arith}
use mathlib.Core.List.{[], ◌∷◌}
use Rattle.seqs.specs.Front.{front_from, front_push, front_end}
use Rattle.seqs.specs.Put.{put_none}
use Rattle.clip.proofs.put_ended.Goals as goal

pub returns-then-kept : goal.returns-then-kept
returns-then-kept c = rw c.if-kept.true (put_none c.args.stops.now c.args.s (omega (arith, rw c.if-kept.true at c.requires)))

pub bounds-stops-s : goal.bounds-stops-s
bounds-stops-s c = omega (arith, rw (c.if-kept.false, c.if-on.true) at c.requires)

pub returns-then-on : goal.returns-then-on
returns-then-on c = let a = c.args in let h = rw (c.if-kept.false, c.if-on.true) at c.requires in rw (c.if-kept.false, c.if-on.true) (front_end (front_push (front_from a.stops.now (a.n ∷ []) a.s (omega (arith, h))) (omega (arith, h))))

pub returns : goal.returns
returns c = rw (c.if-kept.false, c.if-on.false) (put_none c.args.stops.now c.args.s (omega (arith, rw (c.if-kept.false, c.if-on.false) at c.requires)))
