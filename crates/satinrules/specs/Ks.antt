-- Document 01's checks K10 and K11, of the definitions, by computing; a whole column; and the four constants.
use Rattle.std.specs.Prelude.{ℕ, ◌≡◌, refl, true, false, [], ◌∷◌, None, Some, map, length, Float}
use Rattle.std.specs.Float.Ieee.{add, sub, mul, div, neg, lt, le, eq, of_int, round, to_unsigned, is_nan}
use Rattle.numbers.specs.Num.{literal}
use Rattle.numbers.specs.Order.{negative, before, smaller, larger}
use Rattle.numbers.specs.Whole.{whole_of, ceil}
use Rattle.numbers.specs.Root.{isqrt, near_root, root_units, root}
use Rattle.geom.specs.declared.point.P.{P}
use Rattle.geom.specs.Point.{point, len, dist, norm, lerp, tiny}
use Rattle.geom.specs.Steps.{steps}
use Rattle.polyline.specs.Line.{length_from, polyline_length, shortest}
use Rattle.satinrules.specs.declared.Pair.{Pair}
use Rattle.satinrules.specs.declared.Style.TheVariants.{Plain}
use Rattle.satinrules.specs.Settings.{short_dist, short_inset, underlay_inset, zigzag_underlay_spacing}
use Rattle.satinrules.specs.Arc.{lengths_from, lengths, clamp, partition_point, side_end, fraction, on_side, at, rail_at}
use Rattle.satinrules.specs.Pairs.{Rails, ends_of, grows, kept, centre, centres_from, total_of, count_of, place_at, in_window, windows, places, few, pair_at, pairs}
use Rattle.satinrules.specs.Column.{inset, middle, alternate, centre_pass, contour_pass, zigzag_pass, after_centre, after_zigzag, underlay, far_end, widened, crowded, pulled, stitch, stitches_from, stitches, sides_from, sides, stagger, parts_of, part_end, parts_from, split_side, bend, bends, s_side, split_long, s_stitch, spaced, split_by, styled, top, column}

abbrev n : ℕ → Float
n a = unfold literal in literal a 1

abbrev pt : ℕ → ℕ → P
pt a b = point (n a) (n b)

abbrev pair : ℕ → ℕ → ℕ → ℕ → Pair
pair a b c d = record { a = pt a b; b = pt c d }

abbrev rails : Rails
rails = record { a = pt 0 0 ∷ pt 10 0 ∷ []; b = pt 0 4 ∷ pt 10 4 ∷ []; sync = [] }

-- K10: rails (0,0)-(10,0) and (0,4)-(10,4), step 5: pairs at x = 0, 5, 10
pub k10 : pairs rails (n 5) ≡ pair 0 0 0 4 ∷ pair 5 0 5 4 ∷ pair 10 0 10 4 ∷ []
unfolding add sub mul div neg lt le eq of_int round to_unsigned is_nan literal negative before smaller larger whole_of ceil isqrt near_root root_units root len dist norm lerp tiny steps length_from polyline_length shortest lengths_from lengths clamp partition_point side_end fraction on_side at rail_at ends_of grows kept centre centres_from total_of count_of place_at in_window windows places few pair_at pairs
k10 = refl

-- K11: an s form of length 6 stays straight
pub k11 : s_stitch (pt 0 0 ∷ pt 6 0 ∷ []) ≡ pt 0 0 ∷ pt 6 0 ∷ []
unfolding add sub mul div neg lt le eq of_int round to_unsigned is_nan literal negative before smaller whole_of isqrt near_root root_units root len dist norm lerp tiny sides_from sides bend bends s_side s_stitch
k11 = refl

-- all three underlays, then a top split at 2: 3 + 6 + 2 + 18 points
pub all_passes : length (column rails (record { spacing = n 5; pull = n 1; underlay = 7; run_len = n 5; short_stitches = true; split = Some (n 2); style = Plain })) ≡ 29
unfolding add sub mul div neg lt le eq of_int round to_unsigned is_nan literal negative before smaller larger whole_of ceil isqrt near_root root_units root len dist norm lerp tiny steps length_from polyline_length shortest lengths_from lengths clamp partition_point side_end fraction on_side at rail_at ends_of grows kept centre centres_from total_of count_of place_at in_window windows places few pair_at pairs short_dist short_inset underlay_inset zigzag_underlay_spacing inset middle alternate centre_pass contour_pass zigzag_pass after_centre after_zigzag underlay far_end widened crowded pulled stitch stitches_from stitches sides_from sides stagger parts_of part_end parts_from split_side bend bends s_side split_long spaced split_by styled top column
all_passes = refl

-- where the thread ends after each underlay from 0 to 7: centre and zigzag turn the travelling end, contour doesn't
pub far_ends : map (λ u. far_end rails (record { spacing = n 5; pull = n 1; underlay = u; run_len = n 5; short_stitches = true; split = None; style = Plain })) (0 ∷ 1 ∷ 2 ∷ 3 ∷ 4 ∷ 5 ∷ 6 ∷ 7 ∷ []) ≡ false ∷ true ∷ false ∷ true ∷ true ∷ false ∷ true ∷ false ∷ []
unfolding few after_centre after_zigzag far_end
far_ends = refl

-- ---- the constants

-- 2.5 and 0.15: a second pair 2 from the last is crowded on both rails, and loses 3 of 20 at each end
pub short_ends : stitch (record { spacing = n 5; pull = n 0; underlay = 0; run_len = n 5; short_stitches = true; split = None; style = Plain }) true (pair 0 0 0 20) (pair 2 0 2 20) ≡ pt 2 3 ∷ pt 2 17 ∷ []
unfolding add sub mul div neg lt le eq of_int round is_nan literal negative before smaller larger isqrt near_root root_units root len dist norm tiny short_dist short_inset widened crowded pulled stitch
short_ends = refl

-- 4.0: of a width of 40 the underlay keeps 4 clear at each end
pub underlay_clear : inset (pair 0 0 0 40) ≡ pair 0 4 0 36
unfolding add sub mul div neg lt le eq of_int round is_nan literal negative before smaller isqrt near_root root_units root len dist norm tiny underlay_inset inset
underlay_clear = refl

-- 30.0: the zigzag underlay of a column of 60 has 3 peaks
pub zigzag_peaks : length (zigzag_pass (record { a = pt 0 0 ∷ pt 60 0 ∷ []; b = pt 0 4 ∷ pt 60 4 ∷ []; sync = [] }) false) ≡ 3
unfolding add sub mul div neg lt le eq of_int round to_unsigned is_nan literal negative before smaller larger whole_of ceil isqrt near_root root_units root len dist norm lerp tiny steps length_from polyline_length shortest ends_of grows kept centre centres_from total_of count_of place_at in_window windows places few pair_at pairs zigzag_underlay_spacing inset alternate zigzag_pass
zigzag_peaks = refl
