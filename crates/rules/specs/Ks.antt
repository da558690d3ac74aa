-- Document 01's sheet of checks, K1 to K6, by computing; its fourth slip; the refusals that it names for K1; and request [2]'s two squares that touch.
use Rattle.std.specs.Prelude.{◌≡◌, refl, true, false, ℕ, List, [], ◌∷◌, ℤ, pos, negsuc, Float}
use Rattle.std.specs.Float.{fin}
use Rattle.std.specs.Float.Ieee.{add, sub, mul, div, neg, lt, le, eq, of_int, round, to_signed, to_unsigned, to_bits, size, odd, is_nan}
use Rattle.numbers.specs.Num.{literal, zero64}
use Rattle.numbers.specs.Order.{negative, before, smaller, larger, magnitude, finite}
use Rattle.numbers.specs.Whole.{whole_of, floor, ceil}
use Rattle.numbers.specs.Root.{isqrt, near_root, root_units, root}
use Rattle.geom.specs.declared.point.P.{P}
use Rattle.geom.specs.Point.{point, len, dist, lerp}
use Rattle.outlines.specs.declared.rule.FillRule.{FillRule}
use Rattle.outlines.specs.declared.rule.FillRule.TheVariants.{NonZero, EvenOdd}
use Rattle.geom.specs.Steps.{along}
use Rattle.outlines.specs.Winding.{ring, winding}
use Rattle.outlines.specs.Inside.{inside, point_inside}
use Rattle.geom.specs.Outline.{points, cut, rings, rising}
use Rattle.limits.specs.Limits.{largest, within, good_number, good_numbers, good_spacing, good_len, good_inset, good_turn, good_outline}
use Rattle.refusal.specs.Refusal.{DONE, SETTING, WORK, ROOM}
use Rattle.rules.specs.Fill.{good_settings, gate, roomed, refusal}
use Rattle.rules.specs.Calls.{sewn_points, tatami_answer}
use Rattle.rules.specs.declared.Settings.{Settings}
use Rattle.rules.specs.declared.Entry.{Entry}
use Rattle.rules.specs.Fill.{sides_to, sides, edge_of, kept_side, turned, edges, how_many, through, ymin, ymax, k_lo, k_hi, row_numbers, row_at, starts, lives, cross_x, by_x, crossed, dir, crossing, same_x, merged_from, merged, crossings, spans, shrink, piece_of, min_row, wide, pieces_at, pieces_of, overlap, link_ends, link_inside, connects, joined, joins, row_entries, begun, entries, met, row_list, section, sections, cycle, rem_euclid, offset, min_end, m0, m1, needles, row_points, parts, between, sew_from, sew, sewn, tatami}

abbrev n : ℕ → Float
n a = unfold literal in literal a 1

abbrev pt : ℕ → ℕ → P
pt a b = point (n a) (n b)

-- 3.5 and 6.5
abbrev low : Float
low = fin false 7 (negsuc 0)

abbrev high : Float
high = fin false 13 (negsuc 0)

abbrev Q : List (List P)
Q = (pt 0 0 ∷ pt 10 0 ∷ pt 10 10 ∷ pt 0 10 ∷ []) ∷ []

-- spacing 4, pull 0, cosine 1, sine 0
abbrev set : ℕ → Float → Settings
set len inset = record { spacing = n 4; len = n len; inset = inset; pull = n 0; cosine = n 1; sine = n 0 }

pub k1 : tatami Q NonZero (set 10 zero64) 1 false ≡ (pt 0 2 ∷ pt 10 2 ∷ pt 10 6 ∷ pt 0 6 ∷ []) ∷ []
unfolding add sub mul div neg lt le eq of_int round to_signed to_unsigned to_bits size odd is_nan literal negative before smaller larger magnitude whole_of floor ceil isqrt near_root root_units root len dist lerp along Rattle.outlines.specs.Winding.edge Rattle.outlines.specs.Winding.edges ring winding inside point_inside sides_to sides edge_of kept_side turned edges how_many through ymin ymax k_lo k_hi row_numbers row_at starts lives cross_x by_x crossed dir crossing same_x merged_from merged crossings spans shrink piece_of min_row wide pieces_at pieces_of overlap link_ends link_inside connects joined joins row_entries begun entries met row_list section sections cycle rem_euclid offset min_end m0 m1 needles row_points parts between sew_from sew sewn tatami
k1 = refl

-- K1 with no row at the outline's top
pub k1_lower : tatami ((pt 0 0 ∷ pt 10 0 ∷ pt 10 9 ∷ pt 0 9 ∷ []) ∷ []) NonZero (set 10 zero64) 1 false ≡ (pt 0 2 ∷ pt 10 2 ∷ pt 10 6 ∷ pt 0 6 ∷ []) ∷ []
unfolding add sub mul div neg lt le eq of_int round to_signed to_unsigned to_bits size odd is_nan literal negative before smaller larger magnitude whole_of floor ceil isqrt near_root root_units root len dist lerp along Rattle.outlines.specs.Winding.edge Rattle.outlines.specs.Winding.edges ring winding inside point_inside sides_to sides edge_of kept_side turned edges how_many through ymin ymax k_lo k_hi row_numbers row_at starts lives cross_x by_x crossed dir crossing same_x merged_from merged crossings spans shrink piece_of min_row wide pieces_at pieces_of overlap link_ends link_inside connects joined joins row_entries begun entries met row_list section sections cycle rem_euclid offset min_end m0 m1 needles row_points parts between sew_from sew sewn tatami
k1_lower = refl

-- K1's row at y = 10 is one of its rows, and is empty
pub k1_empty : (row_numbers (set 10 zero64) (edges (set 10 zero64) Q) ≡ pos 0 ∷ pos 1 ∷ pos 2 ∷ []) × (pieces_of NonZero (set 10 zero64) (edges (set 10 zero64) Q) (pos 2) ≡ [])
unfolding add sub mul div neg lt le eq of_int round to_signed to_bits size odd is_nan literal negative before smaller larger magnitude whole_of floor ceil inside sides_to sides edge_of kept_side turned edges how_many through ymin ymax k_lo k_hi row_numbers row_at starts lives cross_x by_x crossed dir crossing same_x merged_from merged crossings spans shrink piece_of min_row wide pieces_at pieces_of
k1_empty = (refl, refl)

-- a waist 2 wide, where a row is empty: what is above it and below it are two sections, though the way between them is inside
pub waist : tatami ((pt 0 0 ∷ pt 11 0 ∷ pt 11 12 ∷ pt 0 12 ∷ pt 9 6 ∷ []) ∷ []) NonZero (set 10 zero64) 1 false ≡ (pt 3 2 ∷ pt 11 2 ∷ []) ∷ (pt 3 10 ∷ pt 11 10 ∷ []) ∷ []
unfolding add sub mul div neg lt le eq of_int round to_signed to_unsigned to_bits size odd is_nan literal negative before smaller larger magnitude whole_of floor ceil isqrt near_root root_units root len dist lerp along Rattle.outlines.specs.Winding.edge Rattle.outlines.specs.Winding.edges ring winding inside point_inside sides_to sides edge_of kept_side turned edges how_many through ymin ymax k_lo k_hi row_numbers row_at starts lives cross_x by_x crossed dir crossing same_x merged_from merged crossings spans shrink piece_of min_row wide pieces_at pieces_of overlap link_ends link_inside connects joined joins row_entries begun entries met row_list section sections cycle rem_euclid offset min_end m0 m1 needles row_points parts between sew_from sew sewn tatami
waist = refl

pub k2 : tatami Q NonZero (set 10 zero64) 1 true ≡ (pt 0 6 ∷ pt 10 6 ∷ pt 10 2 ∷ pt 0 2 ∷ []) ∷ []
unfolding add sub mul div neg lt le eq of_int round to_signed to_unsigned to_bits size odd is_nan literal negative before smaller larger magnitude whole_of floor ceil isqrt near_root root_units root len dist lerp along Rattle.outlines.specs.Winding.edge Rattle.outlines.specs.Winding.edges ring winding inside point_inside sides_to sides edge_of kept_side turned edges how_many through ymin ymax k_lo k_hi row_numbers row_at starts lives cross_x by_x crossed dir crossing same_x merged_from merged crossings spans shrink piece_of min_row wide pieces_at pieces_of overlap link_ends link_inside connects joined joins row_entries begun entries met row_list section sections cycle rem_euclid offset min_end m0 m1 needles row_points parts between sew_from sew sewn tatami
k2 = refl

pub k3 : tatami Q NonZero (set 5 zero64) 1 false ≡ (pt 0 2 ∷ pt 5 2 ∷ pt 10 2 ∷ pt 10 6 ∷ pt 5 6 ∷ pt 0 6 ∷ []) ∷ []
unfolding add sub mul div neg lt le eq of_int round to_signed to_unsigned to_bits size odd is_nan literal negative before smaller larger magnitude whole_of floor ceil isqrt near_root root_units root len dist lerp along Rattle.outlines.specs.Winding.edge Rattle.outlines.specs.Winding.edges ring winding inside point_inside sides_to sides edge_of kept_side turned edges how_many through ymin ymax k_lo k_hi row_numbers row_at starts lives cross_x by_x crossed dir crossing same_x merged_from merged crossings spans shrink piece_of min_row wide pieces_at pieces_of overlap link_ends link_inside connects joined joins row_entries begun entries met row_list section sections cycle rem_euclid offset min_end m0 m1 needles row_points parts between sew_from sew sewn tatami
k3 = refl

pub k4 : tatami Q NonZero (set 10 zero64) 2 false ≡ (pt 0 2 ∷ pt 10 2 ∷ pt 10 6 ∷ pt 5 6 ∷ pt 0 6 ∷ []) ∷ []
unfolding add sub mul div neg lt le eq of_int round to_signed to_unsigned to_bits size odd is_nan literal negative before smaller larger magnitude whole_of floor ceil isqrt near_root root_units root len dist lerp along Rattle.outlines.specs.Winding.edge Rattle.outlines.specs.Winding.edges ring winding inside point_inside sides_to sides edge_of kept_side turned edges how_many through ymin ymax k_lo k_hi row_numbers row_at starts lives cross_x by_x crossed dir crossing same_x merged_from merged crossings spans shrink piece_of min_row wide pieces_at pieces_of overlap link_ends link_inside connects joined joins row_entries begun entries met row_list section sections cycle rem_euclid offset min_end m0 m1 needles row_points parts between sew_from sew sewn tatami
k4 = refl

pub k5 : tatami Q NonZero (set 10 low) 1 false ≡ (point low (n 2) ∷ point high (n 2) ∷ point high (n 6) ∷ point low (n 6) ∷ []) ∷ []
unfolding add sub mul div neg lt le eq of_int round to_signed to_unsigned to_bits size odd is_nan literal negative before smaller larger magnitude whole_of floor ceil isqrt near_root root_units root len dist lerp along Rattle.outlines.specs.Winding.edge Rattle.outlines.specs.Winding.edges ring winding inside point_inside sides_to sides edge_of kept_side turned edges how_many through ymin ymax k_lo k_hi row_numbers row_at starts lives cross_x by_x crossed dir crossing same_x merged_from merged crossings spans shrink piece_of min_row wide pieces_at pieces_of overlap link_ends link_inside connects joined joins row_entries begun entries met row_list section sections cycle rem_euclid offset min_end m0 m1 needles row_points parts between sew_from sew sewn tatami
k5 = refl

pub k6 : tatami Q NonZero (set 10 (n 4)) 1 false ≡ []
unfolding add sub mul div neg lt le eq of_int round to_signed to_unsigned to_bits size odd is_nan literal negative before smaller larger magnitude whole_of floor ceil isqrt near_root root_units root len dist lerp along Rattle.outlines.specs.Winding.edge Rattle.outlines.specs.Winding.edges ring winding inside point_inside sides_to sides edge_of kept_side turned edges how_many through ymin ymax k_lo k_hi row_numbers row_at starts lives cross_x by_x crossed dir crossing same_x merged_from merged crossings spans shrink piece_of min_row wide pieces_at pieces_of overlap link_ends link_inside connects joined joins row_entries begun entries met row_list section sections cycle rem_euclid offset min_end m0 m1 needles row_points parts between sew_from sew sewn tatami
k6 = refl

-- ---- the table: K1 is accepted, with 2 kept edges and 2 kept pieces, 4 points and 1 section

abbrev corners : List Float
corners = n 0 ∷ n 0 ∷ n 10 ∷ n 0 ∷ n 10 ∷ n 10 ∷ n 0 ∷ n 10 ∷ []

pub k1_done : tatami_answer corners (4 ∷ []) NonZero (set 10 zero64) 1 false 20 20 8 1 ≡ DONE
unfolding add sub mul div neg lt le eq of_int round to_signed to_unsigned to_bits size odd is_nan literal negative before smaller larger magnitude whole_of floor ceil isqrt near_root root_units root len dist lerp along Rattle.outlines.specs.Winding.edge Rattle.outlines.specs.Winding.edges ring winding inside point_inside sides_to sides edge_of kept_side turned edges how_many through ymin ymax k_lo k_hi row_numbers row_at starts lives cross_x by_x crossed dir crossing same_x merged_from merged crossings spans shrink piece_of min_row wide pieces_at pieces_of overlap link_ends link_inside connects joined joins row_entries begun entries met row_list section sections cycle rem_euclid offset min_end m0 m1 needles row_points parts between sew_from sew sewn tatami points cut rings rising largest within good_number good_numbers good_spacing good_len good_inset good_turn good_outline good_settings gate roomed refusal sewn_points tatami_answer finite
k1_done = refl

-- one float short of the need
pub k1_work : tatami_answer corners (4 ∷ []) NonZero (set 10 zero64) 1 false 19 20 8 1 ≡ WORK
unfolding add sub mul div neg lt le eq of_int round to_signed to_unsigned to_bits size odd is_nan literal negative before smaller larger magnitude whole_of floor ceil isqrt near_root root_units root len dist lerp along Rattle.outlines.specs.Winding.edge Rattle.outlines.specs.Winding.edges ring winding inside point_inside sides_to sides edge_of kept_side turned edges how_many through ymin ymax k_lo k_hi row_numbers row_at starts lives cross_x by_x crossed dir crossing same_x merged_from merged crossings spans shrink piece_of min_row wide pieces_at pieces_of overlap link_ends link_inside connects joined joins row_entries begun entries met row_list section sections cycle rem_euclid offset min_end m0 m1 needles row_points parts between sew_from sew sewn tatami points cut rings rising largest within good_number good_numbers good_spacing good_len good_inset good_turn good_outline good_settings gate roomed refusal sewn_points tatami_answer finite
k1_work = refl

-- an output of 7 floats
pub k1_room : tatami_answer corners (4 ∷ []) NonZero (set 10 zero64) 1 false 20 20 7 1 ≡ ROOM
unfolding add sub mul div neg lt le eq of_int round to_signed to_unsigned to_bits size odd is_nan literal negative before smaller larger magnitude whole_of floor ceil isqrt near_root root_units root len dist lerp along Rattle.outlines.specs.Winding.edge Rattle.outlines.specs.Winding.edges ring winding inside point_inside sides_to sides edge_of kept_side turned edges how_many through ymin ymax k_lo k_hi row_numbers row_at starts lives cross_x by_x crossed dir crossing same_x merged_from merged crossings spans shrink piece_of min_row wide pieces_at pieces_of overlap link_ends link_inside connects joined joins row_entries begun entries met row_list section sections cycle rem_euclid offset min_end m0 m1 needles row_points parts between sew_from sew sewn tatami points cut rings rising largest within good_number good_numbers good_spacing good_len good_inset good_turn good_outline good_settings gate roomed refusal sewn_points tatami_answer finite
k1_room = refl

-- spacing 0.49
pub k1_setting : tatami_answer corners (4 ∷ []) NonZero (record { spacing = literal 49 100; len = n 10; inset = n 0; pull = n 0; cosine = n 1; sine = n 0 }) 1 false 20 20 8 1 ≡ SETTING
unfolding add sub mul div neg lt le eq of_int round to_signed to_unsigned to_bits size odd is_nan literal negative before smaller larger magnitude whole_of floor ceil isqrt near_root root_units root len dist lerp along Rattle.outlines.specs.Winding.edge Rattle.outlines.specs.Winding.edges ring winding inside point_inside sides_to sides edge_of kept_side turned edges how_many through ymin ymax k_lo k_hi row_numbers row_at starts lives cross_x by_x crossed dir crossing same_x merged_from merged crossings spans shrink piece_of min_row wide pieces_at pieces_of overlap link_ends link_inside connects joined joins row_entries begun entries met row_list section sections cycle rem_euclid offset min_end m0 m1 needles row_points parts between sew_from sew sewn tatami points cut rings rising largest within good_number good_numbers good_spacing good_len good_inset good_turn good_outline good_settings gate roomed refusal sewn_points tatami_answer finite
k1_setting = refl

-- a turn that is wrong too: the settings come first
pub setting_first : tatami_answer corners (4 ∷ []) NonZero (record { spacing = literal 49 100; len = n 10; inset = n 0; pull = n 0; cosine = n 1; sine = n 1 }) 1 false 20 20 8 1 ≡ SETTING
unfolding add sub mul div neg lt le eq of_int round to_signed to_unsigned to_bits size odd is_nan literal negative before smaller larger magnitude whole_of floor ceil isqrt near_root root_units root len dist lerp along Rattle.outlines.specs.Winding.edge Rattle.outlines.specs.Winding.edges ring winding inside point_inside sides_to sides edge_of kept_side turned edges how_many through ymin ymax k_lo k_hi row_numbers row_at starts lives cross_x by_x crossed dir crossing same_x merged_from merged crossings spans shrink piece_of min_row wide pieces_at pieces_of overlap link_ends link_inside connects joined joins row_entries begun entries met row_list section sections cycle rem_euclid offset min_end m0 m1 needles row_points parts between sew_from sew sewn tatami points cut rings rising largest within good_number good_numbers good_spacing good_len good_inset good_turn good_outline good_settings gate roomed refusal sewn_points tatami_answer finite
setting_first = refl

-- no rings
pub none_done : tatami_answer [] [] NonZero (set 10 zero64) 1 false 0 0 0 0 ≡ DONE
unfolding add sub mul div neg lt le eq of_int round to_signed to_unsigned to_bits size odd is_nan literal negative before smaller larger magnitude whole_of floor ceil isqrt near_root root_units root len dist lerp along Rattle.outlines.specs.Winding.edge Rattle.outlines.specs.Winding.edges ring winding inside point_inside sides_to sides edge_of kept_side turned edges how_many through ymin ymax k_lo k_hi row_numbers row_at starts lives cross_x by_x crossed dir crossing same_x merged_from merged crossings spans shrink piece_of min_row wide pieces_at pieces_of overlap link_ends link_inside connects joined joins row_entries begun entries met row_list section sections cycle rem_euclid offset min_end m0 m1 needles row_points parts between sew_from sew sewn tatami points cut rings rising largest within good_number good_numbers good_spacing good_len good_inset good_turn good_outline good_settings gate roomed refusal sewn_points tatami_answer finite
none_done = refl

-- ---- request [2]: the row list of two squares that touch is that of their union, whichever is drawn first, whichever way each runs, under either rule

-- two that run the same way are one of twice the direction
pub added : merged ((n 10, pos 1) ∷ (n 10, pos 1) ∷ (n 20, negsuc 0) ∷ []) ≡ (n 10, pos 2) ∷ (n 20, negsuc 0) ∷ []
unfolding div of_int round to_bits size odd literal same_x merged_from merged
added = refl

-- 0..10 and 10..20, the second also the other way round
abbrev left : List P
left = pt 0 0 ∷ pt 10 0 ∷ pt 10 10 ∷ pt 0 10 ∷ []

abbrev right : List P
right = pt 10 0 ∷ pt 20 0 ∷ pt 20 10 ∷ pt 10 10 ∷ []

abbrev back : List P
back = pt 10 0 ∷ pt 10 10 ∷ pt 20 10 ∷ pt 20 0 ∷ []

-- spacing 4, inset 2
abbrev listed : List P → List P → FillRule → List Entry
listed a b rule = row_list (a ∷ b ∷ []) rule (set 10 (n 2)) false

-- one section of two rows from 2 to 18
abbrev row : ℤ → ℕ → ℕ → Entry
row k y nth = record { piece = record { k = k; y = n y; xa = n 2; xb = n 18 }; section = 0; nth = nth }

abbrev one : List Entry
one = row (pos 0) 2 0 ∷ row (pos 1) 6 1 ∷ []

pub union : row_list ((pt 0 0 ∷ pt 20 0 ∷ pt 20 10 ∷ pt 0 10 ∷ []) ∷ []) NonZero (set 10 (n 2)) false ≡ one
unfolding add sub mul div neg lt le eq of_int round to_signed to_bits size odd is_nan literal negative before smaller larger magnitude whole_of floor ceil lerp along Rattle.outlines.specs.Winding.edge Rattle.outlines.specs.Winding.edges ring winding inside point_inside sides_to sides edge_of kept_side turned edges how_many through ymin ymax k_lo k_hi row_numbers row_at starts lives cross_x by_x crossed dir crossing same_x merged_from merged crossings spans shrink piece_of min_row wide pieces_at pieces_of overlap link_ends link_inside connects joined joins row_entries begun entries met row_list
union = refl

pub touching : (listed left right NonZero ≡ one) × (listed right left NonZero ≡ one)
unfolding add sub mul div neg lt le eq of_int round to_signed to_bits size odd is_nan literal negative before smaller larger magnitude whole_of floor ceil lerp along Rattle.outlines.specs.Winding.edge Rattle.outlines.specs.Winding.edges ring winding inside point_inside sides_to sides edge_of kept_side turned edges how_many through ymin ymax k_lo k_hi row_numbers row_at starts lives cross_x by_x crossed dir crossing same_x merged_from merged crossings spans shrink piece_of min_row wide pieces_at pieces_of overlap link_ends link_inside connects joined joins row_entries begun entries met row_list
touching = (refl, refl)

pub touching_even_odd : (listed left right EvenOdd ≡ one) × (listed right left EvenOdd ≡ one)
unfolding add sub mul div neg lt le eq of_int round to_signed to_bits size odd is_nan literal negative before smaller larger magnitude whole_of floor ceil lerp along Rattle.outlines.specs.Winding.edge Rattle.outlines.specs.Winding.edges ring winding inside point_inside sides_to sides edge_of kept_side turned edges how_many through ymin ymax k_lo k_hi row_numbers row_at starts lives cross_x by_x crossed dir crossing same_x merged_from merged crossings spans shrink piece_of min_row wide pieces_at pieces_of overlap link_ends link_inside connects joined joins row_entries begun entries met row_list
touching_even_odd = (refl, refl)

pub touching_opposite : (listed left back NonZero ≡ one) × (listed back left NonZero ≡ one)
unfolding add sub mul div neg lt le eq of_int round to_signed to_bits size odd is_nan literal negative before smaller larger magnitude whole_of floor ceil lerp along Rattle.outlines.specs.Winding.edge Rattle.outlines.specs.Winding.edges ring winding inside point_inside sides_to sides edge_of kept_side turned edges how_many through ymin ymax k_lo k_hi row_numbers row_at starts lives cross_x by_x crossed dir crossing same_x merged_from merged crossings spans shrink piece_of min_row wide pieces_at pieces_of overlap link_ends link_inside connects joined joins row_entries begun entries met row_list
touching_opposite = (refl, refl)

pub touching_opposite_even_odd : (listed left back EvenOdd ≡ one) × (listed back left EvenOdd ≡ one)
unfolding add sub mul div neg lt le eq of_int round to_signed to_bits size odd is_nan literal negative before smaller larger magnitude whole_of floor ceil lerp along Rattle.outlines.specs.Winding.edge Rattle.outlines.specs.Winding.edges ring winding inside point_inside sides_to sides edge_of kept_side turned edges how_many through ymin ymax k_lo k_hi row_numbers row_at starts lives cross_x by_x crossed dir crossing same_x merged_from merged crossings spans shrink piece_of min_row wide pieces_at pieces_of overlap link_ends link_inside connects joined joins row_entries begun entries met row_list
touching_opposite_even_odd = (refl, refl)
