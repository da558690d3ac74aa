-- Distances and neighbours by computing: what is just within len + 0.001 and what is just past it, and K1, K3 and K4 before they are turned back.
use Rattle.std.specs.Prelude.{◌≡◌, refl, true, false, List, [], ◌∷◌, ℕ, ◌^◌, ◌+◌, pos, Float}
use Rattle.std.specs.Float.{nan, inf, fin}
use Rattle.std.specs.Float.Ieee.{add, sub, mul, div, neg, lt, le, eq, of_int, round, to_signed, to_unsigned, to_bits, size, odd, is_nan}
use Rattle.numbers.specs.Num.{literal}
use Rattle.numbers.specs.Order.{negative, before, smaller, larger, magnitude, finite}
use Rattle.numbers.specs.Whole.{whole_of, floor, ceil}
use Rattle.numbers.specs.Root.{isqrt, near_root, root_units, root}
use Rattle.numbers.specs.Value.{units_of, value_of}
use Rattle.seqs.specs.Lists.{every}
use Rattle.geom.specs.declared.point.P.{P}
use Rattle.geom.specs.Point.{point, len, dist, lerp}
use Rattle.geom.specs.Steps.{along}
use Rattle.outlines.specs.declared.rule.FillRule.TheVariants.{NonZero}
use Rattle.outlines.specs.Winding.{ring, winding}
use Rattle.outlines.specs.Inside.{inside, point_inside}
use Rattle.rules.specs.declared.Settings.{Settings}
use Rattle.rules.specs.Fill.{sides_to, sides, edge_of, kept_side, turned, edges, how_many, through, ymin, ymax, k_lo, k_hi, row_numbers, row_at, starts, lives, cross_x, by_x, crossed, dir, crossing, same_x, merged_from, merged, crossings, spans, shrink, piece_of, min_row, wide, pieces_at, pieces_of, overlap, link_ends, link_inside, connects, joined, joins, row_entries, begun, entries, met, row_list, section, sections, cycle, rem_euclid, offset, min_end, m0, m1, needles, row_points, parts, between, sew_from, sew}
use Rattle.apart.specs.Apart.{gap, no_farther, neighbours, unturned, all_unturned}

abbrev n : ℕ → Float
n a = unfold literal in literal a 1

abbrev pt : ℕ → ℕ → P
pt a b = point (n a) (n b)

-- a / 2 ^ k
abbrev part : ℕ → ℕ → Float
part a k = unfold literal in literal a (2 ^ k)

-- of len 5: 5 + 1/1024 is within 5.001, 5 + 1/512 is past it
pub margin : no_farther (n 5) (pt 0 0) (point (part 5121 10) (n 0)) ≡ true
unfolding round size odd literal gap value_of units_of negative finite no_farther
margin = refl

pub past_it : no_farther (n 5) (pt 0 0) (point (part 2561 9) (n 0)) ≡ false
unfolding round size odd literal gap value_of units_of negative finite no_farther
past_it = refl

-- 3 across and 4 down, and -4
pub slanted : (no_farther (n 5) (pt 0 0) (pt 3 4) ≡ true) × (no_farther (n 5) (pt 3 0) (point (n 0) (fin true 1 (pos 2))) ≡ true) × (no_farther (n 4) (pt 0 0) (pt 3 4) ≡ false)
unfolding round size odd literal gap value_of units_of negative finite no_farther
slanted = (refl, refl, refl)

-- what is not finite is near nothing
pub not_finite : (no_farther (n 5) (point nan (n 0)) (pt 0 0) ≡ false) × (no_farther (n 5) (pt 0 0) (point (n 0) (inf true)) ≡ false)
unfolding round size odd literal gap value_of units_of negative finite no_farther
not_finite = (refl, refl)

-- every two neighbours are looked at
pub every_two : (neighbours (λ p q. lt p.x q.x) (pt 0 0 ∷ pt 1 0 ∷ pt 2 0 ∷ []) ≡ true) × (neighbours (λ p q. lt p.x q.x) (pt 0 0 ∷ pt 1 0 ∷ pt 1 0 ∷ []) ≡ false) × (neighbours (λ p q. lt p.x q.x) (pt 1 0 ∷ pt 1 0 ∷ pt 2 0 ∷ []) ≡ false)
unfolding round size odd literal lt neighbours
every_two = (refl, refl, refl)

-- ---- fills
abbrev Q : List (List P)
Q = (pt 0 0 ∷ pt 10 0 ∷ pt 10 10 ∷ pt 0 10 ∷ []) ∷ []

-- spacing 4, cosine 0, sine 1
abbrev set : ℕ → Settings
set len = record { spacing = n 4; len = n len; inset = n 0; pull = n 0; cosine = n 0; sine = n 1 }

-- a whole x, and a y
abbrev under : ℕ → Float → P
under a y = point (n a) y

-- -10, -6 and -2
abbrev ten : Float
ten = fin true 5 (pos 1)

abbrev six : Float
six = fin true 3 (pos 1)

abbrev two : Float
two = fin true 1 (pos 1)

-- Q turned by a right angle, len 5: the points before they are turned back, those of the links from row to row among them
pub before_turning : all_unturned Q NonZero (set 5) 1 false ≡ (under 0 ten ∷ under 5 ten ∷ under 10 ten ∷ under 10 six ∷ under 5 six ∷ under 0 six ∷ under 0 two ∷ under 5 two ∷ under 10 two ∷ []) ∷ []
unfolding add sub mul div neg lt le eq of_int round to_signed to_unsigned to_bits size odd is_nan literal negative before smaller larger magnitude whole_of floor ceil isqrt near_root root_units root len dist lerp along Rattle.outlines.specs.Winding.edge Rattle.outlines.specs.Winding.edges ring winding inside point_inside sides_to sides edge_of kept_side turned edges how_many through ymin ymax k_lo k_hi row_numbers row_at starts lives cross_x by_x crossed dir crossing same_x merged_from merged crossings spans shrink piece_of min_row wide pieces_at pieces_of overlap link_ends link_inside connects joined joins row_entries begun entries met row_list section sections cycle rem_euclid offset min_end m0 m1 needles row_points parts between sew_from sew unturned all_unturned
before_turning = refl

-- len 3: each link, of 4, is cut in two
pub none_longer : every (neighbours (no_farther (n 3))) (all_unturned Q NonZero (set 3) 1 false) ≡ true
unfolding add sub mul div neg lt le eq of_int round to_signed to_unsigned to_bits size odd is_nan literal negative before smaller larger magnitude whole_of floor ceil isqrt near_root root_units root len dist lerp along Rattle.outlines.specs.Winding.edge Rattle.outlines.specs.Winding.edges ring winding inside point_inside sides_to sides edge_of kept_side turned edges how_many through ymin ymax k_lo k_hi row_numbers row_at starts lives cross_x by_x crossed dir crossing same_x merged_from merged crossings spans shrink piece_of min_row wide pieces_at pieces_of overlap link_ends link_inside connects joined joins row_entries begun entries met row_list section sections cycle rem_euclid offset min_end m0 m1 needles row_points parts between sew_from sew unturned all_unturned gap value_of units_of finite no_farther neighbours
none_longer = refl

-- of its stitches some are longer than 1.001
pub some_longer : every (neighbours (no_farther (n 1))) (all_unturned Q NonZero (set 3) 1 false) ≡ false
unfolding add sub mul div neg lt le eq of_int round to_signed to_unsigned to_bits size odd is_nan literal negative before smaller larger magnitude whole_of floor ceil isqrt near_root root_units root len dist lerp along Rattle.outlines.specs.Winding.edge Rattle.outlines.specs.Winding.edges ring winding inside point_inside sides_to sides edge_of kept_side turned edges how_many through ymin ymax k_lo k_hi row_numbers row_at starts lives cross_x by_x crossed dir crossing same_x merged_from merged crossings spans shrink piece_of min_row wide pieces_at pieces_of overlap link_ends link_inside connects joined joins row_entries begun entries met row_list section sections cycle rem_euclid offset min_end m0 m1 needles row_points parts between sew_from sew unturned all_unturned gap value_of units_of finite no_farther neighbours
some_longer = refl
