use native.Mathlib.Omega.{arith}
use Rattle.geom.specs.Rings.{rings_of}
use Rattle.sections.specs.AllRows.{marking_start, marking_rises, marking_next, marking_end, marking_low}
use borrow.Author.Rules.{rules}
use Rattle.sections.proofs.mark_rows.Goals as goal

pub loop-r-init : goal.loop-r-init
loop-r-init c = let a = c.args in marking_start (rings_of a.area.outline) a.area.rule a.g a.pieces.now a.wholes.now a.n a.rows c.requires.4

pub row_end-r1-requires : goal.row_end-r1-requires
row_end-r1-requires c = (c.loop-r.invariant.within, omega (arith, c.loop-r.invariant.run.size, c.requires.1))

pub invariant_of-l : goal.invariant_of-l
invariant_of-l c =
    let a = c.args in
    let v = c.loop-r.invariant in
    let e = c.row_end-r1.ensures in
    record {
      opens = v.opens;
      row = e.1;
      all = e.2;
      floats = c.requires.0;
      before = v.last;
      here = marking_rises (rings_of a.area.outline) a.area.rule a.g a.pieces.now a.wholes.now a.n a.rows v c.loop-r-test.true e.0;
    }

pub mark_row-section-requires : goal.mark_row-section-requires
mark_row-section-requires c =
    let a = c.args in
    let v = c.loop-r.invariant in
    (omega (arith, v.run.size, c.requires.1), marking_low (rings_of a.area.outline) a.area.rule a.g a.pieces.now a.wholes.now a.n a.rows v c.requires.3, c.requires.2, v.most)

pub loop-r-preserved : goal.loop-r-preserved
loop-r-preserved c =
    let a = c.args in
    let e = c.row_end-r1.ensures in
    let x = c.mark_row-section.ensures in
    marking_next (rings_of a.area.outline) a.area.rule a.g a.pieces.now a.wholes.now a.n a.rows c.requires.1 c.loop-r.invariant c.loop-r-test.true e.0 e.1 e.2 x.0 x.1 x.2

pub shape_of-wholes : goal.shape_of-wholes
shape_of-wholes c = c.loop-r.invariant.run.size

pub returns : goal.returns
returns c =
    let a = c.args in
    let v = c.loop-r.invariant in
    let e = marking_end (rings_of a.area.outline) a.area.rule a.g a.pieces.now a.wholes.now a.n a.rows v (search rules) in
    (e.0, e.1, omega (arith, v.most, v.within))
