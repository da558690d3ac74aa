use mathlib.Core.Path.{sym, ap}
use Prim.Native.Nat.{◌+◌}
use native.Mathlib.Omega.{arith}
use Rattle.jobs.specs.Text.{digits}
use Rattle.jobs.proofs.Words.{digits_length, hex_is, put_last}
use Rattle.jobs.proofs.line.put_hex.Goals as goal

pub returns : goal.returns
returns c =
    let a = c.args in
    let b = c.to_bits.result in
    let p = put_last a.out.now _ a.at (digits 16 16 b) (a.at + 16) a.last (ap (λ j. a.at + j) (sym (digits_length 16 16 b))) (omega arith) c.put_digits.ensures in record { put = rw (hex_is a.x b c.to_bits.ensures) at p; value = omega arith }
