-- `write` meets its contract: the records of the points to come, and the end, are to be written from k on. Assumes nothing.
use mathlib.Core.List.{[], ◌++◌}
use Rattle.seqs.specs.Front.{front_start, front_at, front_end, front_room_block, front_whole}
use Rattle.seqs.specs.Lists.{every}
use Rattle.seqs.specs.Tests.{and_both}
use Rattle.limits.specs.Limits.{good_point}
use Rattle.dst.specs.Records.{end_record}
use Rattle.dst.specs.Thread.{way, thread, records_from, dst_bytes}
use Rattle.dst.specs.Lifted.{standing}
use Rattle.dst.proofs.ThreadSteps.{good_points, write_turn}
use Rattle.dst.proofs.thread.write.Goals as goal

pub loop-p-init : goal.loop-p-init
unfolding dst_bytes
loop-p-init c = rw (c.into_iter-p-iterator.ensures.into_iter_gives, c.of-p-items.ensures, c.origin-from.ensures) (good_points c.args.points.now c.requires.0, front_start _ _)

pub of-to-requires : goal.of-to-requires
of-to-requires c = (and_both (good_point c.in-Some.p) (every good_point c.next.new.self) (rw c.in-Some.ensures.steps at c.loop-p.invariant.0)).0

pub put_way-k-requires : goal.put_way-k-requires
put_way-k-requires c =
    let u = standing c.loop-p.from in
    let v = standing c.of-to.result in
    let rest = c.next.new.self in
    let i = rw c.in-Some.ensures.steps at c.loop-p.invariant in
    front_room_block (records_from u (way u v)) (records_from v (thread v rest) ++ end_record) (front_at (rw (← c.of-to.ensures) at (write_turn u c.in-Some.p rest)) i.1) c.requires.1

pub loop-p-preserved : goal.loop-p-preserved
loop-p-preserved c =
    let u = standing c.loop-p.from in
    let v = standing c.of-to.result in
    let rest = c.next.new.self in
    let i = rw c.in-Some.ensures.steps at c.loop-p.invariant in
    let m = records_from u (way u v) in
    let behind = records_from v (thread v rest) ++ end_record in
    let f = front_at (rw (← c.of-to.ensures) at (write_turn u c.in-Some.p rest)) i.1 in
    ((and_both (good_point c.in-Some.p) (every good_point rest) i.0).1, rw c.put_way-k.ensures.1 (front_whole m behind _ f (front_room_block m behind f c.requires.1) c.put_way-k.ensures.0))

pub put_end-requires : goal.put_end-requires
unfolding thread records_from
put_end-requires c = front_room_block end_record [] (rw c.in-None.ensures.steps.0 at c.loop-p.invariant.1) c.requires.1

pub shape_of-out : goal.shape_of-out
unfolding thread records_from
shape_of-out c =
    let f = rw c.in-None.ensures.steps.0 at c.loop-p.invariant.1 in
    (front_whole end_record [] _ f (front_room_block end_record [] f c.requires.1) c.put_end.ensures).len

pub returns : goal.returns
unfolding thread records_from
returns c =
    let f = rw c.in-None.ensures.steps.0 at c.loop-p.invariant.1 in
    front_end (front_whole end_record [] _ f (front_room_block end_record [] f c.requires.1) c.put_end.ensures)
