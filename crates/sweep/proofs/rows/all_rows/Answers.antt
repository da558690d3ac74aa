use Rattle.std.proofs.Common.{arith}
use Rattle.sweep.specs.LayingLaws.{laying_step, laying_end}
use Rattle.sweep.proofs.rows.all_rows.Goals as goal

pub loop-r-preserved : goal.loop-r-preserved
loop-r-preserved c =
    let a = c.args in
    laying_step a.w a.upward a.rule a.g a.table.now c.loop-r.invariant c.loop-r-test.true c.cut_at-c.ensures c.row-done.ensures

pub returns : goal.returns
returns c =
    let a = c.args in
    laying_end a.w a.upward a.rule a.g a.table.now c.loop-r.invariant (omega arith)
