use lib.Ieee.{of_bits}
use Rattle.geom.specs.Rings.{rings_of}
use Rattle.rules.specs.Fill.{edges}
use Rattle.edges.specs.SpanLaws.{rows_some, rows_none}
use Rattle.seqs.specs.Signed.{cast_back}
use Rattle.edges.proofs.rows.rows_of.Goals as goal

pub returns-then-x : goal.returns-then-x
unfolding of_bits
returns-then-x c =
    let a = c.args in
    let es = edges a.g (rings_of a.o) in
    let l = cast_back c.ceil.result c.to_i64-lo.ensures in
    let h = cast_back c.floor.result c.to_i64-hi.ensures in
    rw (l, h) (rows_some a.g es c.extent_of-x.ensures c.ceil.ensures c.floor.ensures c.to_i64-lo.ensures c.to_i64-hi.ensures c.if-x.true (rw (l, h) at c.how_many-n.ensures))

pub returns-else-x : goal.returns-else-x
unfolding of_bits
returns-else-x c =
    let a = c.args in
    let es = edges a.g (rings_of a.o) in
    rw (cast_back c.ceil.result c.to_i64-lo.ensures, cast_back c.floor.result c.to_i64-hi.ensures) (rows_none a.g es c.extent_of-x.ensures c.ceil.ensures c.floor.ensures c.to_i64-lo.ensures c.to_i64-hi.ensures c.if-x.false)
