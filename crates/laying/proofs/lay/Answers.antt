use Rattle.std.proofs.Common.{arith}
use Rattle.edges.specs.TableLaws.{in_length}
use Rattle.laying.proofs.lay.Goals as goal

pub lay-requires : goal.lay-requires
lay-requires c =
    let a = c.args in
    let r = c.requires in
    let n = in_length a.e a.table.now in
    rw c.new-table.ensures record { room = omega (arith, n, r.room); edges = omega (arith, n, r.edges); rows = r.rows; strict = r.strict }
