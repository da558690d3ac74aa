-- Document 01's K1 beneath a fill that is refused, and a table that is a float short, by computing.
use Rattle.std.specs.Prelude.{◌≡◌, refl, ℕ, false, List, [], ◌∷◌, replicate, Float}
use Rattle.std.specs.Float.Ieee.{add, sub, mul, div, neg, lt, le, eq, of_int, round, to_signed, to_unsigned, to_bits, size, odd, is_nan}
use Rattle.numbers.specs.Num.{literal, zero64}
use Rattle.numbers.specs.Order.{negative, before, smaller, larger, magnitude, finite}
use Rattle.numbers.specs.Whole.{whole_of, floor, ceil}
use Rattle.numbers.specs.Root.{isqrt, near_root, root_units, root}
use Rattle.geom.specs.Point.{len, dist, lerp}
use Rattle.geom.specs.Steps.{along}
use Rattle.outlines.specs.Winding.{ring, winding}
use Rattle.outlines.specs.Inside.{inside, point_inside}
use Rattle.geom.specs.Outline.{points, cut, rings, rising}
use Rattle.limits.specs.Limits.{largest, within, good_number, good_numbers, good_spacing, good_len, good_inset, good_turn, good_outline}
use Rattle.rules.specs.Fill.{good_settings}
use Rattle.rules.specs.Calls.{sewn_points, sewn_ends}
use Rattle.rules.specs.Fill.{sides_to, sides, edge_of, kept_side, turned, edges, how_many, through, ymin, ymax, k_lo, k_hi, row_numbers, row_at, starts, lives, cross_x, by_x, crossed, dir, crossing, same_x, merged_from, merged, crossings, spans, shrink, piece_of, min_row, wide, pieces_at, pieces_of, overlap, link_ends, link_inside, connects, joined, joins, row_entries, begun, entries, met, row_list, section, sections, cycle, rem_euclid, offset, min_end, m0, m1, needles, row_points, parts, between, sew_from, sew, sewn, tatami}
use Rattle.geom.specs.Sewing.{flat}
use Rattle.tatami.specs.Left.{left}
use Rattle.outlines.specs.declared.rule.FillRule.TheVariants.{NonZero}
use Rattle.layers.specs.declared.Layer.{Layer}
use Rattle.layers.specs.Layers.{table_of, table_refusal, layer_roomed, layer_refusal, slices, layer_left, twice, Twice, twice_left}

abbrev n : ℕ → Float
n a = unfold literal in literal a 1

-- the square Q
abbrev q : List Float
q = n 0 ∷ n 0 ∷ n 10 ∷ n 0 ∷ n 10 ∷ n 10 ∷ n 0 ∷ n 10 ∷ []

abbrev k1 : Layer
k1 = record { spacing = n 4; len = n 10; inset = n 0; pull = n 0; stagger = 1; upward = false }

-- spacing 0 is SETTING
abbrev bad : Layer
bad = record { spacing = n 0; len = n 10; inset = n 0; pull = n 0; stagger = 1; upward = false }

-- K1 over a table of this many floats, the refused fill after it
abbrev call : ℕ → Twice
call floats = twice_left q (4 ∷ []) NonZero (n 1) (n 0) k1 bad (slices (replicate 10 (n 7)) (9 ∷ 9 ∷ []) (replicate 8 (n 1)) (replicate 12 1)) (slices [] [] (n 5 ∷ []) (5 ∷ [])) (replicate floats (n 1)) (replicate 8 1)

-- two edges need 12 floats and 8 whole numbers; K1's two pieces 8 floats and 12 whole numbers; the refused fill's slices stay
pub one_refused : call 12 ≡ twice
    (left (record { answer = 0; sections = 1; points = 4 }) (n 0 ∷ n 2 ∷ n 10 ∷ n 2 ∷ n 10 ∷ n 6 ∷ n 0 ∷ n 6 ∷ n 7 ∷ n 7 ∷ []) (4 ∷ 9 ∷ []) (replicate 8 zero64) (replicate 12 0))
    (left (record { answer = 3; sections = 0; points = 0 }) [] [] (n 5 ∷ []) (5 ∷ []))
    (replicate 12 zero64) (replicate 8 0)
unfolding add sub mul div neg lt le eq of_int round to_signed to_unsigned to_bits size odd is_nan literal negative before smaller larger magnitude whole_of floor ceil isqrt near_root root_units root len dist lerp along Rattle.outlines.specs.Winding.edge Rattle.outlines.specs.Winding.edges ring winding inside point_inside sides_to sides edge_of kept_side turned edges how_many through ymin ymax k_lo k_hi row_numbers row_at starts lives cross_x by_x crossed dir crossing same_x merged_from merged crossings spans shrink piece_of min_row wide pieces_at pieces_of overlap link_ends link_inside connects joined joins row_entries begun entries met row_list section sections cycle rem_euclid offset min_end m0 m1 needles row_points parts between sew_from sew sewn tatami points cut rings rising largest within good_number good_numbers good_spacing good_len good_inset good_turn good_outline good_settings sewn_points finite flat sewn_ends table_of table_refusal layer_roomed layer_refusal layer_left twice_left
one_refused = refl

-- a float short: WORK for both, and every working slice is zero
pub table_short : call 11 ≡ twice
    (left (record { answer = 6; sections = 0; points = 0 }) (replicate 10 (n 7)) (9 ∷ 9 ∷ []) (replicate 8 zero64) (replicate 12 0))
    (left (record { answer = 6; sections = 0; points = 0 }) [] [] (zero64 ∷ []) (0 ∷ []))
    (replicate 11 zero64) (replicate 8 0)
unfolding add sub mul div neg lt le eq of_int round to_signed to_unsigned to_bits size odd is_nan literal negative before smaller larger magnitude whole_of floor ceil isqrt near_root root_units root len dist lerp along Rattle.outlines.specs.Winding.edge Rattle.outlines.specs.Winding.edges ring winding inside point_inside sides_to sides edge_of kept_side turned edges how_many through ymin ymax k_lo k_hi row_numbers row_at starts lives cross_x by_x crossed dir crossing same_x merged_from merged crossings spans shrink piece_of min_row wide pieces_at pieces_of overlap link_ends link_inside connects joined joins row_entries begun entries met row_list section sections cycle rem_euclid offset min_end m0 m1 needles row_points parts between sew_from sew sewn tatami points cut rings rising largest within good_number good_numbers good_spacing good_len good_inset good_turn good_outline good_settings sewn_points finite flat sewn_ends table_of table_refusal layer_roomed layer_refusal layer_left twice_left
table_short = refl
