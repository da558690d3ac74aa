use Rattle.seqs.specs.Front.{front_start, front_at, front_room, front_push, front_end}
use Rattle.salvage.proofs.Turns.{places_kept, places_dropped, places_end, reasons_kept, reasons_dropped, reasons_end}
use borrow.Author.Rules.{rules}
use Rattle.salvage.proofs.writing.put_dropped.Goals as goal
use Rattle.salvage.proofs.writing.put_dropped.Goals.{then-m-ne-KEPT, else-m-ne-KEPT}

pub loop-i-init : goal.loop-i-init
loop-i-init c = (front_start _ _, front_start _ _)

pub bounds-places-k : goal.bounds-places-k
bounds-places-k c = front_room (front_at (places_dropped c.args.marks.now c.loop-i.i (search rules) c.if-m-ne-KEPT.true) c.loop-i.invariant.0) c.requires.0

pub bounds-reasons-k : goal.bounds-reasons-k
bounds-reasons-k c = front_room (front_at (reasons_dropped c.args.marks.now c.loop-i.i (search rules) c.if-m-ne-KEPT.true) c.loop-i.invariant.1) c.requires.1

pub loop-i-preserved : goal.loop-i-preserved
loop-i-preserved c =
    let ms = c.args.marks.now in
    let l = c.loop-i in
    elim c.if-m-ne-KEPT.branch [
      | then-m-ne-KEPT w ↦
          let f = front_at (places_dropped ms l.i (search rules) w.if-m-ne-KEPT.true) l.invariant.0 in
          let g = front_at (reasons_dropped ms l.i (search rules) w.if-m-ne-KEPT.true) l.invariant.1 in
          rw (w.places-is, w.reasons-is, w.k-is) (front_push f (front_room f c.requires.0), front_push g (front_room g c.requires.1))
      | else-m-ne-KEPT w ↦ rw (w.places-is, w.reasons-is, w.k-is) (front_at (places_kept ms l.i (search rules) w.if-m-ne-KEPT.false) l.invariant.0, front_at (reasons_kept ms l.i (search rules) w.if-m-ne-KEPT.false) l.invariant.1)
    ]

pub returns : goal.returns
returns c =
    let ms = c.args.marks.now in
    let l = c.loop-i in
    record {
      places_after = front_end (front_at (places_end ms l.i (search rules)) l.invariant.0);
      reasons_after = front_end (front_at (reasons_end ms l.i (search rules)) l.invariant.1);
    }
