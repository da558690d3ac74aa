-- Document 01's K1 by both engines, by computing: two edges and two pieces, so the plain engine needs 8 floats and 12 whole numbers where the sweep needs 20 and 20.
use Rattle.std.specs.Prelude.{◌≡◌, refl, false, ℕ, List, [], ◌∷◌, Float, replicate}
use Rattle.std.specs.Float.Ieee.{add, sub, mul, div, neg, lt, le, eq, of_int, round, to_signed, to_unsigned, to_bits, size, odd, is_nan}
use Rattle.numbers.specs.Num.{literal, zero64}
use Rattle.numbers.specs.Order.{negative, before, smaller, larger, magnitude, finite}
use Rattle.numbers.specs.Whole.{whole_of, floor, ceil}
use Rattle.numbers.specs.Root.{isqrt, near_root, root_units, root}
use Rattle.geom.specs.Point.{len, dist, lerp}
use Rattle.outlines.specs.declared.rule.FillRule.TheVariants.{NonZero}
use Rattle.geom.specs.Steps.{along}
use Rattle.outlines.specs.Winding.{ring, winding}
use Rattle.outlines.specs.Inside.{inside, point_inside}
use Rattle.geom.specs.Outline.{points, cut, rings, rising}
use Rattle.limits.specs.Limits.{largest, within, good_number, good_numbers, good_spacing, good_len, good_inset, good_turn, good_outline}
use Rattle.refusal.specs.Refusal.{DONE, WORK, ROOM}
use Rattle.rules.specs.Fill.{good_settings, gate, roomed, refusal}
use Rattle.rules.specs.Calls.{sewn_points, sewn_ends, tatami_answer}
use Rattle.rules.specs.declared.Settings.{Settings}
use Rattle.rules.specs.Fill.{sides_to, sides, edge_of, kept_side, turned, edges, how_many, through, ymin, ymax, k_lo, k_hi, row_numbers, row_at, starts, lives, cross_x, by_x, crossed, dir, crossing, same_x, merged_from, merged, crossings, spans, shrink, piece_of, min_row, wide, pieces_at, pieces_of, overlap, link_ends, link_inside, connects, joined, joins, row_entries, begun, entries, met, row_list, section, sections, cycle, rem_euclid, offset, min_end, m0, m1, needles, row_points, parts, between, sew_from, sew, sewn, tatami}
use Rattle.geom.specs.Sewing.{flat}
use Rattle.tatami.specs.Left.{Left, left, tatami_left}
use Rattle.plain.specs.Plain.{plain_roomed, plain_refusal, plain_tatami_answer, plain_tatami_left}

abbrev n : ℕ → Float
n a = unfold literal in literal a 1

abbrev corners : List Float
corners = n 0 ∷ n 0 ∷ n 10 ∷ n 0 ∷ n 10 ∷ n 10 ∷ n 0 ∷ n 10 ∷ []

-- spacing 4, len 10, inset and pull 0, cosine 1, sine 0
abbrev set : Settings
set = record { spacing = n 4; len = n 10; inset = n 0; pull = n 0; cosine = n 1; sine = n 0 }

-- K1's one section, of four points, and working slices of zeros
abbrev sewn_square : ℕ → ℕ → Left
sewn_square floats wholes = left (record { answer = DONE; sections = 1; points = 4 }) (n 0 ∷ n 2 ∷ n 10 ∷ n 2 ∷ n 10 ∷ n 6 ∷ n 0 ∷ n 6 ∷ []) (4 ∷ []) (replicate floats zero64) (replicate wholes 0)

-- each from its own need
pub k1_both :
    (plain_tatami_left corners (4 ∷ []) NonZero set 1 false (replicate 8 zero64) (0 ∷ []) (replicate 8 (n 1)) (replicate 12 1) ≡ sewn_square 8 12)
    × (tatami_left corners (4 ∷ []) NonZero set 1 false (replicate 8 zero64) (0 ∷ []) (replicate 20 (n 1)) (replicate 20 1) ≡ sewn_square 20 20)
unfolding add sub mul div neg lt le eq of_int round to_signed to_unsigned to_bits size odd is_nan literal negative before smaller larger magnitude whole_of floor ceil isqrt near_root root_units root len dist lerp along Rattle.outlines.specs.Winding.edge Rattle.outlines.specs.Winding.edges ring winding inside point_inside sides_to sides edge_of kept_side turned edges how_many through ymin ymax k_lo k_hi row_numbers row_at starts lives cross_x by_x crossed dir crossing same_x merged_from merged crossings spans shrink piece_of min_row wide pieces_at pieces_of overlap link_ends link_inside connects joined joins row_entries begun entries met row_list section sections cycle rem_euclid offset min_end m0 m1 needles row_points parts between sew_from sew sewn tatami points cut rings rising largest within good_number good_numbers good_spacing good_len good_inset good_turn good_outline good_settings gate roomed refusal sewn_points tatami_answer finite plain_roomed plain_refusal plain_tatami_answer plain_tatami_left tatami_left sewn_ends flat
k1_both = (refl, refl)

-- what is enough for the plain engine is WORK for the sweep; one short of either slice is WORK for the plain engine too; then ROOM
pub k1_need :
    (tatami_answer corners (4 ∷ []) NonZero set 1 false 8 12 8 1 ≡ WORK)
    × (plain_tatami_answer corners (4 ∷ []) NonZero set 1 false 7 12 8 1 ≡ WORK)
    × (plain_tatami_answer corners (4 ∷ []) NonZero set 1 false 8 11 8 1 ≡ WORK)
    × (plain_tatami_answer corners (4 ∷ []) NonZero set 1 false 8 12 7 1 ≡ ROOM)
unfolding add sub mul div neg lt le eq of_int round to_signed to_unsigned to_bits size odd is_nan literal negative before smaller larger magnitude whole_of floor ceil isqrt near_root root_units root len dist lerp along Rattle.outlines.specs.Winding.edge Rattle.outlines.specs.Winding.edges ring winding inside point_inside sides_to sides edge_of kept_side turned edges how_many through ymin ymax k_lo k_hi row_numbers row_at starts lives cross_x by_x crossed dir crossing same_x merged_from merged crossings spans shrink piece_of min_row wide pieces_at pieces_of overlap link_ends link_inside connects joined joins row_entries begun entries met row_list section sections cycle rem_euclid offset min_end m0 m1 needles row_points parts between sew_from sew sewn tatami points cut rings rising largest within good_number good_numbers good_spacing good_len good_inset good_turn good_outline good_settings gate roomed refusal sewn_points tatami_answer finite plain_roomed plain_refusal plain_tatami_answer plain_tatami_left tatami_left sewn_ends flat
k1_need = (refl, refl, refl, refl)
