-- Document 01's checks K1 to K12 as one claim, of the definitions that the contracts cite, by computing.
use Rattle.std.specs.Prelude.{ℕ, ◌≡◌, refl, true, false, List, [], ◌∷◌, Float}
use Rattle.std.specs.Float.Ieee.{add, sub, mul, div, neg, lt, le, eq, of_int, round, to_signed, to_unsigned, to_bits, odd, size, is_nan}
use Rattle.numbers.specs.Num.{literal}
use Rattle.numbers.specs.Order.{negative, finite, before, smaller, larger, magnitude}
use Rattle.numbers.specs.Whole.{whole_of, floor, ceil}
use Rattle.numbers.specs.Root.{isqrt, near_root, root_units, root}
use Rattle.geom.specs.declared.point.P.{P}
use Rattle.geom.specs.Point.{point, len, dist, norm, lerp, tiny}
use Rattle.geom.specs.Steps.{steps, along}
use Rattle.outlines.specs.declared.rule.FillRule.TheVariants.{NonZero}
use Rattle.outlines.specs.Winding.{ring, winding}
use Rattle.outlines.specs.Inside.{inside, point_inside}
use Rattle.polyline.specs.Line.{length_from, polyline_length, shortest, piece_steps, steps_from, step_ends, piece, pieces_from, pieces, resample_keep_corners}
use Rattle.stroke.specs.Running.{base, one_pass, pass, passes_from, running}
use Rattle.rules.specs.declared.Settings.{Settings}
use Rattle.rules.specs.Fill.{sides_to, sides, edge_of, kept_side, turned, edges, how_many, through, ymin, ymax, k_lo, k_hi, row_numbers, row_at, starts, lives, cross_x, by_x, crossed, dir, crossing, same_x, merged_from, merged, crossings, spans, shrink, piece_of, min_row, wide, pieces_at, pieces_of, overlap, link_ends, link_inside, connects, joined, joins, row_entries, begun, entries, met, row_list, section, sections, cycle, rem_euclid, offset, min_end, m0, m1, needles, row_points, parts, between, sew_from, sew, sewn, tatami}
use Rattle.patterns_rules.specs.Patterns.{bounds, up_to, first_cell, past_cell, grid_in, grid_of, x_at, y_at, cell_inside, runs, out_over, back_over, out_and_back, row_runs, row_lines, stitched, cross_stitch}
use Rattle.satinrules.specs.declared.Pair.{Pair}
use Rattle.satinrules.specs.Arc.{lengths_from, lengths, clamp, partition_point, side_end, fraction, on_side, at, rail_at}
use Rattle.satinrules.specs.Pairs.{Rails, ends_of, grows, kept, centre, centres_from, total_of, count_of, place_at, in_window, windows, places, few, pair_at, pairs}
use Rattle.satinrules.specs.Column.{sides_from, bend, bends, s_side, s_stitch}

abbrev n : ℕ → Float
n a = unfold literal in literal a 1

abbrev pt : ℕ → ℕ → P
pt a b = point (n a) (n b)

-- 3.5 and 6.5
abbrev low : Float
low = unfold literal in literal 35 10

abbrev high : Float
high = unfold literal in literal 65 10

-- the square Q
abbrev Q : List (List P)
Q = (pt 0 0 ∷ pt 10 0 ∷ pt 10 10 ∷ pt 0 10 ∷ []) ∷ []

-- spacing 4, pull 0, cosine 1, sine 0
abbrev set : ℕ → Float → Settings
set len inset = record { spacing = n 4; len = n len; inset = inset; pull = n 0; cosine = n 1; sine = n 0 }

abbrev pair : ℕ → Pair
pair x = record { a = pt x 0; b = pt x 4 }

abbrev rails : Rails
rails = record { a = pt 0 0 ∷ pt 10 0 ∷ []; b = pt 0 4 ∷ pt 10 4 ∷ []; sync = [] }

-- K1 to K12, in their order
pub sheet :
    (tatami Q NonZero (set 10 (n 0)) 1 false ≡ (pt 0 2 ∷ pt 10 2 ∷ pt 10 6 ∷ pt 0 6 ∷ []) ∷ [])
    × (tatami Q NonZero (set 10 (n 0)) 1 true ≡ (pt 0 6 ∷ pt 10 6 ∷ pt 10 2 ∷ pt 0 2 ∷ []) ∷ [])
    × (tatami Q NonZero (set 5 (n 0)) 1 false ≡ (pt 0 2 ∷ pt 5 2 ∷ pt 10 2 ∷ pt 10 6 ∷ pt 5 6 ∷ pt 0 6 ∷ []) ∷ [])
    × (tatami Q NonZero (set 10 (n 0)) 2 false ≡ (pt 0 2 ∷ pt 10 2 ∷ pt 10 6 ∷ pt 5 6 ∷ pt 0 6 ∷ []) ∷ [])
    × (tatami Q NonZero (set 10 low) 1 false ≡ (point low (n 2) ∷ point high (n 2) ∷ point high (n 6) ∷ point low (n 6) ∷ []) ∷ [])
    × (tatami Q NonZero (set 10 (n 4)) 1 false ≡ [])
    × (point_inside Q NonZero (pt 0 5) ≡ true)
    × (point_inside Q NonZero (pt 10 5) ≡ false)
    × (cross_stitch Q NonZero (n 10) ≡ (pt 0 10 ∷ pt 10 0 ∷ pt 10 10 ∷ pt 0 0 ∷ []) ∷ [])
    × (pairs rails (n 5) ≡ pair 0 ∷ pair 5 ∷ pair 10 ∷ [])
    × (s_stitch (pt 0 0 ∷ pt 6 0 ∷ []) ≡ pt 0 0 ∷ pt 6 0 ∷ [])
    × (running (pt 0 0 ∷ pt 10 0 ∷ []) false (n 5) 2 ≡ pt 0 0 ∷ pt 5 0 ∷ pt 10 0 ∷ pt 5 0 ∷ pt 0 0 ∷ [])
unfolding add sub mul div neg lt le eq of_int round to_signed to_unsigned to_bits odd size is_nan literal negative finite before smaller larger magnitude whole_of floor ceil isqrt near_root root_units root len dist norm lerp tiny steps along Rattle.outlines.specs.Winding.edge Rattle.outlines.specs.Winding.edges ring winding inside point_inside length_from polyline_length shortest piece_steps steps_from step_ends piece pieces_from pieces resample_keep_corners base one_pass pass passes_from running sides_to sides edge_of kept_side turned edges how_many through ymin ymax k_lo k_hi row_numbers row_at starts lives cross_x by_x crossed dir crossing same_x merged_from merged crossings spans shrink piece_of min_row wide pieces_at pieces_of overlap link_ends link_inside connects joined joins row_entries begun entries met row_list section sections cycle rem_euclid offset min_end m0 m1 needles row_points parts between sew_from sew sewn tatami bounds up_to first_cell past_cell grid_in grid_of x_at y_at cell_inside runs Rattle.patterns_rules.specs.Patterns.joined out_over back_over out_and_back row_runs row_lines stitched cross_stitch lengths_from lengths clamp partition_point side_end fraction on_side at rail_at ends_of grows kept centre centres_from total_of count_of place_at in_window windows places few pair_at pairs sides_from Rattle.satinrules.specs.Column.sides bend bends s_side s_stitch
sheet = (refl, refl, refl, refl, refl, refl, refl, refl, refl, refl, refl, refl)
