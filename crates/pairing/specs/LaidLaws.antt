-- What running lengths say of rails is a fact: it has one proof at most. Assumes nothing.
use Rattle.std.specs.Prelude.{List, Float}
use Rattle.std.specs.Coded.{le_prop}
use base.Stored.{Coded-set, coded_float, coded_list}
use Rattle.std.proofs.Math.Nat.{ℕ_set}
use Rattle.std.proofs.Math.Bool.{Bool-set}
use Rattle.geom.specs.declared.point.P.{P}
use Rattle.pairing.specs.Store.{Laid, Ended}

floats_set : IsSet (List Float)
floats_set = Coded-set (coded_list coded_float)

float_set : IsSet Float
float_set = Coded-set coded_float

pub laid_prop : (a b rails : List Float) → IsProp (Laid a b rails)
laid_prop a b rails = hlevel (floats_set, ℕ_set, Bool-set, le_prop)

pub ended_prop : (a b : List Float) (ends : P) → IsProp (Ended a b ends)
ended_prop a b ends = hlevel (float_set)
