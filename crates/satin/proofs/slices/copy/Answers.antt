use lib.Ieee.{nan}
use Rattle.seqs.specs.Front.{front_start, front_at, front_push, front_room, front_end, next, none}
use borrow.Author.Rules.{rules}
use Rattle.satin.proofs.slices.copy.Goals as goal

pub loop-i-init : goal.loop-i-init
loop-i-init c = front_start _ _

pub bounds-out-i : goal.bounds-out-i
bounds-out-i c = front_room (front_at (next c.args.s.now c.loop-i.i nan (search rules)) c.loop-i.invariant) c.requires

pub loop-i-preserved : goal.loop-i-preserved
loop-i-preserved c =
    let l = c.loop-i in
    let f = front_at (next c.args.s.now l.i nan (search rules)) l.invariant in
    front_push f (front_room f c.requires)

pub shape_of-out : goal.shape_of-out
shape_of-out c = c.loop-i.invariant.len

pub returns : goal.returns
returns c = front_end (front_at (none c.args.s.now c.loop-i.i (search rules)) c.loop-i.invariant)
