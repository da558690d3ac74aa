use mir.Syntax.{w64}
use mir.ValLaws.{to_z-of_z}
use Rattle.cross.specs.GridLaws.{many_none, many_over, gap_low, gap_high, gap_about, gap_below, gap_above}
use Rattle.cross.proofs.grid.how_many.Goals as goal

pub from_to-requires : goal.from_to-requires
from_to-requires c = let a = c.args in
    let h = rw (to_z-of_z w64 a.hi c.ranges.hi, to_z-of_z w64 a.lo c.ranges.lo) at c.if-lo-hi.true in
    let u = rw (to_z-of_z w64 a.hi c.ranges.hi) at c.if-hi-lt0.true in
    rw (to_z-of_z w64 a.hi c.ranges.hi, to_z-of_z w64 a.lo c.ranges.lo) (h, gap_low a.lo a.hi h u c.ranges.lo)

pub returns-then-hi-lt0 : goal.returns-then-hi-lt0
returns-then-hi-lt0 c = let a = c.args in rw (to_z-of_z w64 a.hi c.ranges.hi, to_z-of_z w64 a.lo c.ranges.lo) at c.from_to.ensures

pub returns-then-lo-ltminus4096 : goal.returns-then-lo-ltminus4096
returns-then-lo-ltminus4096 c = let a = c.args in
    let h = rw (to_z-of_z w64 a.hi c.ranges.hi, to_z-of_z w64 a.lo c.ranges.lo) at c.if-lo-hi.true in
    let u = rw (to_z-of_z w64 a.hi c.ranges.hi) at c.if-hi-lt0.false in
    let v = rw (to_z-of_z w64 a.lo c.ranges.lo) at c.if-lo-ltminus4096.true in
    many_over a.lo a.hi h (gap_below a.lo a.hi h v u)

pub returns-then-hi-gt4096 : goal.returns-then-hi-gt4096
returns-then-hi-gt4096 c = let a = c.args in
    let h = rw (to_z-of_z w64 a.hi c.ranges.hi, to_z-of_z w64 a.lo c.ranges.lo) at c.if-lo-hi.true in
    let u = rw (to_z-of_z w64 a.lo c.ranges.lo) at c.if-lo-lt0.true in
    let v = rw (to_z-of_z w64 a.hi c.ranges.hi) at c.if-hi-gt4096.true in
    many_over a.lo a.hi h (gap_above a.lo a.hi h v u)

pub from_to-requires-then-lo-lt0 : goal.from_to-requires-then-lo-lt0
from_to-requires-then-lo-lt0 c = let a = c.args in
    let h = rw (to_z-of_z w64 a.hi c.ranges.hi, to_z-of_z w64 a.lo c.ranges.lo) at c.if-lo-hi.true in
    let u = rw (to_z-of_z w64 a.lo c.ranges.lo) at c.if-lo-ltminus4096.false in
    let v = rw (to_z-of_z w64 a.hi c.ranges.hi) at c.if-hi-gt4096.false in
    rw (to_z-of_z w64 a.hi c.ranges.hi, to_z-of_z w64 a.lo c.ranges.lo) (h, gap_about a.lo a.hi h u v)

pub returns-then-lo-lt0 : goal.returns-then-lo-lt0
returns-then-lo-lt0 c = let a = c.args in rw (to_z-of_z w64 a.hi c.ranges.hi, to_z-of_z w64 a.lo c.ranges.lo) at c.from_to-then-lo-lt0.ensures

pub from_to-requires-then-lo-hi : goal.from_to-requires-then-lo-hi
from_to-requires-then-lo-hi c = let a = c.args in
    let h = rw (to_z-of_z w64 a.hi c.ranges.hi, to_z-of_z w64 a.lo c.ranges.lo) at c.if-lo-hi.true in
    let u = rw (to_z-of_z w64 a.lo c.ranges.lo) at c.if-lo-lt0.false in
    rw (to_z-of_z w64 a.hi c.ranges.hi, to_z-of_z w64 a.lo c.ranges.lo) (h, gap_high a.lo a.hi h u c.ranges.hi)

pub returns-then-lo-hi : goal.returns-then-lo-hi
returns-then-lo-hi c = let a = c.args in rw (to_z-of_z w64 a.hi c.ranges.hi, to_z-of_z w64 a.lo c.ranges.lo) at c.from_to-then-lo-hi.ensures

pub returns : goal.returns
returns c = let a = c.args in
    many_none a.lo a.hi (rw (to_z-of_z w64 a.hi c.ranges.hi, to_z-of_z w64 a.lo c.ranges.lo) at c.if-lo-hi.false)
