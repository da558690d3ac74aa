use native.Mathlib.Omega.{arith}
use Rattle.finding.specs.FindLaws.{passed, outlined, few_edges, spans_rows}
use Rattle.rowwise.specs.RowLaws.{rowing_start, rowing_clear, rowing_step, rowing_end}
use borrow.Author.Rules.{rules}
use Rattle.rowwise.proofs.rows.all_rows.Goals as goal

pub loop-r-init : goal.loop-r-init
loop-r-init c = rowing_start c.args.t.outline.corners.now c.args.t.outline.ends.now c.args.t (passed c.args.t) c.args.floats.now c.args.wholes.now

pub cut_at-c-requires : goal.cut_at-c-requires
cut_at-c-requires c = (spans_rows c.args.t.outline.corners.now c.args.t.outline.ends.now c.args.t (passed c.args.t), c.loop-r-test.true)

pub put_pieces-m-requires : goal.put_pieces-m-requires
put_pieces-m-requires c = ((outlined c.args.t.outline.corners.now c.args.t.outline.ends.now c.args.t (passed c.args.t)).few, rowing_clear c.args.t.outline.corners.now c.args.t.outline.ends.now c.args.t (passed c.args.t) c.loop-r.invariant c.loop-r-test.true c.cut_at-c.ensures, few_edges c.args.t.outline.corners.now c.args.t.outline.ends.now c.args.t (passed c.args.t), omega (arith, c.loop-r.invariant.bound, c.loop-r.invariant.le, (spans_rows c.args.t.outline.corners.now c.args.t.outline.ends.now c.args.t (passed c.args.t)).few))

pub overflow_sub-m : goal.overflow_sub-m
overflow_sub-m c = omega (arith, c.put_pieces-m.ensures.added.count)

pub put_rows-requires : goal.put_rows-requires
put_rows-requires c = omega (arith, c.put_pieces-m.ensures.few, c.loop-r.invariant.bound, c.loop-r.invariant.le, (spans_rows c.args.t.outline.corners.now c.args.t.outline.ends.now c.args.t (passed c.args.t)).few)

pub loop-r-preserved : goal.loop-r-preserved
loop-r-preserved c = rowing_step c.args.t.outline.corners.now c.args.t.outline.ends.now c.args.t (passed c.args.t) c.loop-r.invariant c.loop-r-test.true c.cut_at-c.ensures c.put_pieces-m.ensures c.put_rows.ensures

pub shape_of-floats : goal.shape_of-floats
shape_of-floats c = c.loop-r.invariant.pieces.run.size

pub shape_of-wholes : goal.shape_of-wholes
shape_of-wholes c = c.loop-r.invariant.counts.size

pub returns : goal.returns
returns c = rowing_end c.args.t.outline.corners.now c.args.t.outline.ends.now c.args.t (passed c.args.t) c.loop-r.invariant (search rules) (spans_rows c.args.t.outline.corners.now c.args.t.outline.ends.now c.args.t (passed c.args.t)).few
