-- A test told as a bit. Assumes nothing.
use Rattle.std.proofs.Common.{◌≡◌, refl, ◌≤◌, Bool, true, false, arith}
use Rattle.std.specs.Int.{from_bool}
use Rattle.dst.specs.Records.{bit}

pub bit_is : (b : Bool) → (from_bool b ≡ bit b) × (bit b ≤ 1)
bit_is true = (refl, omega arith)
bit_is false = (refl, omega arith)
