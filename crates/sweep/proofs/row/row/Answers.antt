use Rattle.std.proofs.Common.{arith}
use Rattle.sweep.specs.LayingLaws.{row_count}
use Rattle.sweep.proofs.row.row.Goals as goal

pub put_rows-requires : goal.put_rows-requires
put_rows-requires c =
    let a = c.args in
    omega (arith, c.requires, row_count a.upward a.c a.table.now a.from a.r c.gather-live.ensures c.put_pieces-i.ensures, c.put_pieces-i.ensures.count)
