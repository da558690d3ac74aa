use native.Mathlib.Omega.{arith}
use Rattle.jobs.proofs.Words.{head_is}
use Rattle.jobs.proofs.line.put_head.Goals as goal

pub returns : goal.returns
returns c =
    let a = c.args in
    let e = head_is a.out.now _ _ _ 0 c.put_decimal-a.result c.put_decimal-b.result c.put_decimal.result (omega arith) a.answer a.sections a.points c.put_decimal-a.ensures.value.0 c.put_decimal-b.ensures.value.0 c.put_decimal.ensures.value.0 c.put_decimal-a.ensures.put c.put_decimal-b.ensures.put c.put_decimal.ensures.put in record { put = e.0; value = (e.1, omega arith) }
