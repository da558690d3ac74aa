use Rattle.std.proofs.Common.{[], sym, ◌∙◌, arith}
use Rattle.seqs.specs.Parts.{tail_lent}
use Rattle.sweep.specs.Swept.{by}
use Rattle.sweep.specs.MergeLaws.{left_some, right_some, merging_left, merging_right, merging_end}
use Rattle.sweep.proofs.waiting.merge.Goals as goal
use Rattle.sweep.proofs.waiting.merge.Goals.{then-left_next, else-left_next}

pub bounds-a-0 : goal.bounds-a-0
bounds-a-0 c = let l = c.loop-x in left_some (by c.args.key c.args.table.now) l.a.now l.b.now (sym c.left_next.ensures ∙ c.if-left_next.true)

pub slice_bounds-a-count : goal.slice_bounds-a-count
slice_bounds-a-count c = let l = c.loop-x in left_some (by c.args.key c.args.table.now) l.a.now l.b.now (sym c.left_next.ensures ∙ c.if-left_next.true)

pub slice_bounds-a-start : goal.slice_bounds-a-start
slice_bounds-a-start c = let l = c.loop-x in left_some (by c.args.key c.args.table.now) l.a.now l.b.now (sym c.left_next.ensures ∙ c.if-left_next.true)

pub bounds-b-0 : goal.bounds-b-0
bounds-b-0 c = let l = c.loop-x in right_some (by c.args.key c.args.table.now) l.a.now l.b.now (sym c.left_next.ensures ∙ c.if-left_next.false) (omega (arith, l.invariant.count))

pub slice_bounds-b-count : goal.slice_bounds-b-count
slice_bounds-b-count c = let l = c.loop-x in right_some (by c.args.key c.args.table.now) l.a.now l.b.now (sym c.left_next.ensures ∙ c.if-left_next.false) (omega (arith, l.invariant.count))

pub slice_bounds-b-start : goal.slice_bounds-b-start
slice_bounds-b-start c = let l = c.loop-x in right_some (by c.args.key c.args.table.now) l.a.now l.b.now (sym c.left_next.ensures ∙ c.if-left_next.false) (omega (arith, l.invariant.count))

pub loop-x-preserved : goal.loop-x-preserved
loop-x-preserved c =
    let l = c.loop-x in
    let le = by c.args.key c.args.table.now in
    elim c.if-left_next.branch [
      | then-left_next w ↦ rw (w.to-is, w.a-is, w.b-is, tail_lent l.a.now [] 1) (merging_left le 0 l.invariant (sym c.left_next.ensures ∙ w.if-left_next.true) (omega arith))
      | else-left_next w ↦ rw (w.to-is, w.a-is, w.b-is, tail_lent l.b.now [] 1) (merging_right le 0 l.invariant (sym c.left_next.ensures ∙ w.if-left_next.false) (omega arith))
    ]

pub returns : goal.returns
returns c = let l = c.loop-x in merging_end (by c.args.key c.args.table.now) 0 l.invariant (omega arith)
