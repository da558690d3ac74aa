-- A pass, and its places. Definitions only.
use Rattle.std.specs.Prelude.{ℕ, Option, None, Some, List, [], ◌∷◌, ◌++◌, pos, Float}
use Rattle.numbers.specs.Num.{◌⊘◌, real, zero64}
use Rattle.geom.specs.declared.point.P.{P}
use Rattle.geom.specs.Steps.{steps}
use Rattle.satinrules.specs.Pairs.{origin, kept, total_of, count_of, in_window, windows}
use Rattle.pairing.specs.declared.places.Pass.{Pass}

abbrev pub option_list : {A : Type 0} → Option A → List A
option_list None = []
option_list (Some x) = x ∷ []

-- the pass that `step` asks for along a centre of this length: n, and the length of its steps
abbrev pub pass_along : Float → Float → Pass
pass_along total step = record { n = steps total step; step = total ⊘ real (pos (steps total step)) }

-- the same along the rails' own centre
unfoldable pub pass_of : P → List P → Float → Pass
pass_of ends sync step = record { n = count_of ends sync step; step = total_of ends sync ⊘ real (pos (count_of ends sync step)) }

-- the places that are still to come, s into the window from p to q, with at most m of them in this and the windows after it (from where, and to where)
unfoldable pub places_left : Float → P → P → P × List P → Float → ℕ → Option P → List P
places_left step p q v s m end = in_window step p q (windows step v.0 v.1) s m ++ option_list end

-- the places of a pass
unfoldable pub walk_places : P → List P → Pass → List P
walk_places ends sync w = windows w.step origin (kept ends origin sync) zero64 w.n ++ (ends ∷ [])
