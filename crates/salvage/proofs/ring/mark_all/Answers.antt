use mathlib.Core.Path.{◌∙◌}
use mathlib.Core.List.{map}
use native.Mathlib.Omega.{arith}
use lib.ListN.{length-map}
use Rattle.seqs.specs.Front.{front_start, front_at, front_push, front_ahead, front_end}
use Rattle.seqs.specs.Reads.{whole}
use Rattle.salvage.specs.Ring.{few}
use Rattle.salvage.proofs.Turns.{few_turn, few_end}
use borrow.Author.Rules.{rules}
use Rattle.salvage.proofs.ring.mark_all.Goals as goal

pub loop-m-init : goal.loop-m-init
loop-m-init c = front_start _ _

pub loop-m-preserved : goal.loop-m-preserved
loop-m-preserved c =
    let l = c.loop-m in
    let d = c.args.marks.now in
    rw (c.few.ensures, front_ahead l.m-index 0 l.invariant (omega arith)) (front_push (front_at (few_turn d l.m-index (omega (arith, l.invariant.len))) l.invariant) (search rules))

pub returns : goal.returns
returns c =
    let d = c.args.marks.now in
    front_end (front_at (few_end d c.loop-m.m-index (omega (arith, c.loop-m.invariant.len))) c.loop-m.invariant) ∙ whole (map few d) d (length-map d few)
