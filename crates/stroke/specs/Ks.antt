-- Document 01's check K12, of the definition, by computation.
use Rattle.std.specs.Prelude.{ℕ, ◌≡◌, refl, false, [], ◌∷◌, pos}
use Rattle.std.specs.Float.Ieee.{lt, le, eq, neg, add, sub, mul, div, of_int, round, to_unsigned, odd, size, is_nan}
use Rattle.numbers.specs.Num.{real, literal}
use Rattle.numbers.specs.Order.{negative, before, larger}
use Rattle.numbers.specs.Whole.{whole_of, ceil}
use Rattle.numbers.specs.Root.{isqrt, near_root, root_units, root}
use Rattle.geom.specs.declared.point.P.{P}
use Rattle.geom.specs.Point.{point, len, dist, lerp}
use Rattle.geom.specs.Steps.{steps, along}
use Rattle.polyline.specs.Line.{shortest, piece_steps, steps_from, step_ends, piece, pieces_from, pieces, resample_keep_corners}
use Rattle.stroke.specs.Running.{base, one_pass, pass, passes_from, running}

-- a point on the x axis
abbrev pub at : ℕ → P
at x = point (real (pos x)) (real (pos 0))

-- K12: (0,0)-(10,0), len 5, 2 passes: x = 0, 5, 10, 5, 0
pub k12 : running (at 0 ∷ at 10 ∷ []) false (real (pos 5)) 2 ≡ at 0 ∷ at 5 ∷ at 10 ∷ at 5 ∷ at 0 ∷ []
unfolding running one_pass base pass passes_from resample_keep_corners pieces pieces_from piece step_ends steps_from piece_steps shortest steps along len dist lerp root root_units near_root isqrt ceil whole_of larger before negative literal odd size is_nan to_unsigned of_int round add sub mul div neg lt le eq
k12 = refl
