-- `put_way` meets its contract: the needle stands at cut i - 1, and the records of the cuts from i on are to be written from k on. Assumes nothing.
use mathlib.Core.Path.{◌≡◌, sym}
use Prim.Native.Nat.{◌+◌, ◌-◌}
use native.Mathlib.Omega.{arith}
use Rattle.seqs.specs.Front.{front_from, front_at}
use Rattle.seqs.specs.Wrote.{put_end, put_room}
use Rattle.dst.specs.Thread.{move, way, records_from}
use Rattle.dst.specs.Lifted.{standing}
use Rattle.dst.specs.ThreadLaws.{cut_none, cuts_none, records_none}
use Rattle.dst.proofs.WaySteps.{way_is, next_fits, next_room, next_put}
use borrow.Author.Rules.{rules}
use Rattle.dst.proofs.way.put_way.Goals as goal

pub loop-i-init : goal.loop-i-init
loop-i-init c =
    let a = standing c.args.a in
    let b = standing c.args.b in
    (sym (cut_none a (move a b) c.parts-n.result), front_at (way_is a b c.parts-n.result c.parts-n.ensures.0) (front_from c.args.out.now (records_from a (way a b)) c.args.at (omega (arith, c.requires))))

pub overflow_sub-to : goal.overflow_sub-to
overflow_sub-to c = omega (arith, next_fits (standing c.args.a) (standing c.args.b) c.parts-n.result c.parts-n.ensures.0 c.loop-i.from c.between-to.result c.loop-i.i (omega arith) (omega arith) c.loop-i.invariant.0 c.between-to.ensures)

pub overflow_sub-to-in-loop-i : goal.overflow_sub-to-in-loop-i
overflow_sub-to-in-loop-i c = omega (arith, next_fits (standing c.args.a) (standing c.args.b) c.parts-n.result c.parts-n.ensures.0 c.loop-i.from c.between-to.result c.loop-i.i (omega arith) (omega arith) c.loop-i.invariant.0 c.between-to.ensures)

pub put_record-requires : goal.put_record-requires
put_record-requires c = next_room (standing c.args.a) (standing c.args.b) c.parts-n.result c.parts-n.ensures.0 c.loop-i.from c.between-to.result c.loop-i.i (omega arith) (omega arith) c.loop-i.invariant.0 c.between-to.ensures c.loop-i.invariant.1 (put_room c.args.out.now _ c.args.at c.requires)

pub overflow_add-k : goal.overflow_add-k
overflow_add-k c = omega (arith, next_room (standing c.args.a) (standing c.args.b) c.parts-n.result c.parts-n.ensures.0 c.loop-i.from c.between-to.result c.loop-i.i (omega arith) (omega arith) c.loop-i.invariant.0 c.between-to.ensures c.loop-i.invariant.1 (put_room c.args.out.now _ c.args.at c.requires), c.loop-i.invariant.1.len)

pub loop-i-preserved : goal.loop-i-preserved
loop-i-preserved c =
    let q : c.loop-i.i + 1 - 1 ≡ c.loop-i.i = omega arith in
    (rw q c.between-to.ensures, next_put (standing c.args.a) (standing c.args.b) c.parts-n.result c.parts-n.ensures.0 c.loop-i.from c.between-to.result c.loop-i.i (omega arith) (omega arith) c.loop-i.invariant.0 c.between-to.ensures c.loop-i.invariant.1 (put_room c.args.out.now _ c.args.at c.requires) _ (rw c.kind_at.ensures at c.put_record.ensures))

pub shape_of-out : goal.shape_of-out
shape_of-out c = c.loop-i.invariant.1.len

pub returns : goal.returns
returns c =
    let a = standing c.args.a in
    let b = standing c.args.b in
    put_end (records_from a (way a b)) c.args.at (omega (arith, c.requires)) (front_at (records_none (standing c.loop-i.from) (cuts_none a (move a b) c.parts-n.result c.loop-i.i (search rules))) c.loop-i.invariant.1)

pub returns-2 : goal.returns-2
returns-2 c =
    let a = standing c.args.a in
    let b = standing c.args.b in
    let f = next_put a b c.parts-n.result c.parts-n.ensures.0 c.loop-i.from c.between-to.result c.loop-i.i (omega arith) (omega arith) c.loop-i.invariant.0 c.between-to.ensures c.loop-i.invariant.1 (put_room c.args.out.now _ c.args.at c.requires) _ (rw c.kind_at.ensures at c.put_record.ensures) in
    put_end (records_from a (way a b)) c.args.at (omega (arith, c.requires)) (front_at (records_none (standing c.between-to.result) (cuts_none a (move a b) c.parts-n.result (c.loop-i.i + 1) (omega arith))) f)
