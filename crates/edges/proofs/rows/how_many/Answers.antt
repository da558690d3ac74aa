use mir.Syntax.{w64}
use mir.ValLaws.{to_z-of_z}
use Rattle.seqs.specs.Ints.{lt_not_le, not_lt_le}
use Rattle.edges.specs.SpanLaws.{many_none, many_capped}
use Rattle.edges.proofs.rows.how_many.Goals as goal

pub returns-then-hi-lo : goal.returns-then-hi-lo
returns-then-hi-lo c =
    let a = c.args in
    let t = rw (to_z-of_z w64 a.hi c.ranges.hi, to_z-of_z w64 a.lo c.ranges.lo) at c.if-hi-lo.true in
    many_none a.lo a.hi (lt_not_le a.lo a.hi t)

pub returns : goal.returns
returns c =
    let a = c.args in
    let t = rw (to_z-of_z w64 a.hi c.ranges.hi, to_z-of_z w64 a.lo c.ranges.lo) at c.if-hi-lo.false in
    let d = rw (to_z-of_z w64 a.hi c.ranges.hi, to_z-of_z w64 a.lo c.ranges.lo) at c.abs_diff.ensures in
    rw (c.min.ensures, d) (many_capped a.lo a.hi (not_lt_le a.lo a.hi t))
