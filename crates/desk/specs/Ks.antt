-- Document 01's K1 from its bytes to all that is left, by computing.
use Rattle.std.specs.Prelude.{◌≡◌, refl, ℕ, [], ◌∷◌, replicate, Float}
use Rattle.std.specs.Float.Ieee.{add, sub, mul, div, neg, lt, le, eq, of_int, round, to_signed, to_unsigned, to_bits, size, odd, is_nan, of_bits}
use Rattle.numbers.specs.Num.{literal, zero64}
use Rattle.numbers.specs.Order.{negative, before, smaller, larger, magnitude, finite}
use Rattle.numbers.specs.Whole.{whole_of, floor, ceil}
use Rattle.numbers.specs.Root.{isqrt, near_root, root_units, root}
use Rattle.geom.specs.Point.{len, dist, lerp}
use Rattle.geom.specs.Steps.{along}
use Rattle.outlines.specs.Winding.{ring, winding}
use Rattle.outlines.specs.Inside.{inside, point_inside}
use Rattle.geom.specs.Outline.{points, cut, rings, rising}
use Rattle.limits.specs.Limits.{largest, within, good_number, good_numbers, good_spacing, good_len, good_inset, good_turn, good_outline}
use Rattle.rules.specs.Fill.{good_settings, gate, roomed, refusal}
use Rattle.rules.specs.Calls.{sewn_points, sewn_ends, tatami_answer}
use Rattle.rules.specs.Fill.{sides_to, sides, edge_of, kept_side, turned, edges, how_many, through, ymin, ymax, k_lo, k_hi, row_numbers, row_at, starts, lives, cross_x, by_x, crossed, dir, crossing, same_x, merged_from, merged, crossings, spans, shrink, piece_of, min_row, wide, pieces_at, pieces_of, overlap, link_ends, link_inside, connects, joined, joins, row_entries, begun, entries, met, row_list, section, sections, cycle, rem_euclid, offset, min_end, m0, m1, needles, row_points, parts, between, sew_from, sew, sewn, tatami}
use Rattle.geom.specs.Sewing.{flat}
use Rattle.jobs.specs.Job.{value, number, float, floats, good_head, rule_of, settings_of, count, behind, counted, ends_from, corners_from, job_of, corners, ends, decoded, parsed}
use Rattle.jobs.specs.Ks.{k1_bytes}
use Rattle.tatami.specs.Left.{left, tatami_left}
use Rattle.desk.specs.Desk.{job_left}

abbrev n : ℕ → Float
n a = unfold literal in literal a 1

-- lent a point and a section more than it needs, which stay as they were; what is worked in is lent as ones, and all zero afterwards
pub k1_left : job_left k1_bytes 2048 255 (replicate 10 (n 7)) (9 ∷ 9 ∷ []) (replicate 20 (n 1)) (replicate 20 1)
    ≡ left (record { answer = 0; sections = 1; points = 4 }) (n 0 ∷ n 2 ∷ n 10 ∷ n 2 ∷ n 10 ∷ n 6 ∷ n 0 ∷ n 6 ∷ n 7 ∷ n 7 ∷ []) (4 ∷ 9 ∷ []) (replicate 20 zero64) (replicate 20 0)
unfolding add sub mul div neg lt le eq of_int round to_signed to_unsigned to_bits size odd is_nan literal negative before smaller larger magnitude whole_of floor ceil isqrt near_root root_units root len dist lerp along Rattle.outlines.specs.Winding.edge Rattle.outlines.specs.Winding.edges ring winding inside point_inside sides_to sides edge_of kept_side turned edges how_many through ymin ymax k_lo k_hi row_numbers row_at starts lives cross_x by_x crossed dir crossing same_x merged_from merged crossings spans shrink piece_of min_row wide pieces_at pieces_of overlap link_ends link_inside connects joined joins row_entries begun entries met row_list section sections cycle rem_euclid offset min_end m0 m1 needles row_points parts between sew_from sew sewn tatami points cut rings rising largest within good_number good_numbers good_spacing good_len good_inset good_turn good_outline good_settings gate roomed refusal sewn_points tatami_answer finite of_bits flat sewn_ends value number float floats good_head rule_of settings_of count behind counted ends_from corners_from job_of corners ends decoded parsed tatami_left job_left
k1_left = refl
