use mathlib.Core.Path.{sym, ap}
use Prim.Native.Nat.{◌+◌}
use native.Mathlib.Omega.{arith}
use Rattle.jobs.specs.Text.{digits}
use Rattle.jobs.proofs.Words.{digits_length, decimal_is, put_last, longer}
use Rattle.jobs.proofs.line.put_decimal.Goals as goal

pub returns : goal.returns
returns c =
    let a = c.args in
    let k = c.places-k.result in
    let e = decimal_is a.n k c.places-k.ensures.0 in
    let h = digits_length 10 k a.n in
    let p = put_last a.out.now _ a.at (digits 10 k a.n) (a.at + k) a.last (ap (λ j. a.at + j) (sym h)) (omega arith) c.put_digits.ensures in
    let l = rw e at (longer (digits 10 k a.n) k a.last h) in record { put = rw e at p; value = (omega (arith, l), omega arith) }
