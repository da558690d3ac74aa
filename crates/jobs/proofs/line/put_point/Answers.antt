use native.Mathlib.Omega.{arith}
use Rattle.jobs.proofs.Words.{point_is}
use Rattle.jobs.proofs.line.put_point.Goals as goal

pub returns : goal.returns
returns c =
    let a = c.args in
    let e = point_is a.out.now _ _ _ a.at c.put_decimal-a.result c.put_hex-b.result c.put_hex.result (omega arith) a.section a.x a.y c.put_decimal-a.ensures.value.0 c.put_hex-b.ensures.value c.put_hex.ensures.value c.put_decimal-a.ensures.put c.put_hex-b.ensures.put c.put_hex.ensures.put in record { put = e.0; value = (e.1, omega arith) }
