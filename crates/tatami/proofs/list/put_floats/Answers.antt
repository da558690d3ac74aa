-- The first floats, one by one. Assumes nothing.
use mathlib.Core.Path.{ap, ◌∙◌}
use mathlib.Core.List.{◌++◌}
use native.Mathlib.Omega.{arith}
use lib.ListN.{take, drop}
use lib.Seq.{length-take-le}
use Rattle.seqs.specs.Front.{front_start, front_at, front_push, front_end}
use Rattle.seqs.specs.Reads.{part_next, part_none}
use borrow.Author.Rules.{rules}
use Rattle.tatami.proofs.list.put_floats.Goals as goal

pub loop-i-init : goal.loop-i-init
loop-i-init c = front_start _ _

pub loop-i-preserved : goal.loop-i-preserved
loop-i-preserved c = front_push (front_at (part_next _ c.args.n c.loop-i.i _ (search rules) c.requires.1) c.loop-i.invariant) (omega (arith, c.loop-i.invariant.len, c.requires.0))

pub shape_of-out : goal.shape_of-out
shape_of-out c = c.loop-i.invariant.len

pub returns : goal.returns
returns c = front_end (front_at (part_none _ c.args.n c.loop-i.i (search rules) c.requires.1) c.loop-i.invariant) ∙ ap (λ k. take c.args.n c.args.from.now ++ drop k c.args.out.now) (length-take-le c.args.n c.args.from.now c.requires.1)
