-- Document 01's check K9, of the definitions, by computation; and K1's outline as the other definitions of this crate see it.
use Rattle.std.specs.Prelude.{ℕ, ◌≡◌, refl, List, [], ◌∷◌, pos}
use Rattle.std.specs.Float.Ieee.{lt, le, eq, neg, add, sub, mul, div, of_int, round, to_signed, to_unsigned, odd, size, is_nan}
use Rattle.numbers.specs.Num.{real, literal}
use Rattle.numbers.specs.Order.{negative, finite, before, smaller, larger}
use Rattle.numbers.specs.Whole.{whole_of, floor, ceil}
use Rattle.numbers.specs.Root.{isqrt, near_root, root_units, root}
use Rattle.geom.specs.declared.point.P.{P}
use Rattle.outlines.specs.declared.rule.FillRule.TheVariants.{NonZero}
use Rattle.geom.specs.Point.{point, len, dist, lerp}
use Rattle.geom.specs.Steps.{steps, along}
use Rattle.outlines.specs.Winding.{edge, edges, ring, winding}
use Rattle.outlines.specs.Inside.{inside, point_inside, steps_inside, segment_inside}
use Rattle.patterns_rules.specs.Patterns.{bounds, piece_inside, closed, opened, runs_from, clip_inside, up_to, first_cell, past_cell, grid_in, grid_of, x_at, y_at, cell_inside, joined, runs, out_over, back_over, out_and_back, row_runs, row_lines, stitched, cross_stitch}

abbrev pt : ℕ → ℕ → P
pt x y = point (real (pos x)) (real (pos y))

-- the square Q
abbrev Q : List (List P)
Q = (pt 0 0 ∷ pt 10 0 ∷ pt 10 10 ∷ pt 0 10 ∷ []) ∷ []

-- K9: cell 10
pub k9 : cross_stitch Q NonZero (real (pos 10)) ≡ (pt 0 10 ∷ pt 10 0 ∷ pt 10 10 ∷ pt 0 0 ∷ []) ∷ []
unfolding cross_stitch stitched row_lines row_runs out_and_back back_over out_over runs joined cell_inside y_at x_at grid_of grid_in past_cell first_cell up_to bounds point_inside inside winding ring edges edge floor ceil whole_of smaller larger before negative finite literal odd size is_nan to_signed to_unsigned of_int round add sub mul div neg lt le eq
k9 = refl

-- a line that leaves Q and comes back: two runs, and the points outside in none
pub clipped : clip_inside (pt 1 1 ∷ pt 5 1 ∷ pt 5 20 ∷ pt 5 6 ∷ pt 5 5 ∷ pt 6 5 ∷ []) Q NonZero ≡ (pt 1 1 ∷ pt 5 1 ∷ []) ∷ (pt 5 6 ∷ pt 5 5 ∷ pt 6 5 ∷ []) ∷ []
unfolding clip_inside runs_from opened closed piece_inside segment_inside steps_inside point_inside inside winding ring edges edge steps along len dist lerp root root_units near_root isqrt floor ceil whole_of smaller larger before negative finite literal odd size is_nan to_signed to_unsigned of_int round add sub mul div neg lt le eq
clipped = refl
