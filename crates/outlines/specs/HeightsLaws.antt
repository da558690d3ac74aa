-- What an outline's heights say is a fact: it has one proof at most. Assumes nothing.
use Rattle.std.specs.Prelude.{ℕ, List, Float}
use Rattle.std.specs.Coded.{le_prop}
use Rattle.std.proofs.Math.Dec.{T_prop}
use Rattle.std.proofs.Math.Nat.{ℕ_set}
use Rattle.std.proofs.Math.Bool.{Bool-set}
use Rattle.std.specs.Float.{nan, inf, fin}
use Rattle.numbers.specs.Value.{Within}
use Rattle.outlines.specs.Heights.{Measured}

within_prop : (n : ℕ) (x : Float) → IsProp (Within n x)
unfolding Within
within_prop n nan = λ p q. absurd p
within_prop n (inf s) = λ p q. absurd p
within_prop n (fin s m e) = le_prop

pub measured_prop : (corners : List Float) (ends : List ℕ) (t : List Float) → IsProp (Measured corners ends t)
measured_prop corners ends t = hlevel (within_prop, T_prop, ℕ_set, Bool-set, le_prop)
