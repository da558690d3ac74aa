-- Request [11]'s words on single outlines, of the definitions, by computation: each reason at least once.
use Rattle.std.specs.Prelude.{ℕ, ◌≡◌, refl, false, true, List, [], ◌∷◌, pos, Float}
use Rattle.std.specs.Float.{nan, inf, fin}
use Rattle.std.specs.Float.Ieee.{le, lt, eq, to_bits, of_int, round, size}
use Rattle.numbers.specs.Order.{finite, magnitude}
use Rattle.geom.specs.Outline.{points, cut, rings}
use Rattle.geom.specs.Sewing.{flat}
use Rattle.limits.specs.Limits.{largest, good_number, good_point}
use Rattle.salvage.specs.Ring.{left, same, stray, strays, closes, mark_last, closed, cleared, ring_marks, kept_ring}
use Rattle.salvage.specs.Salvage.{marks, dropped_places, dropped_reasons, kept_rings, ring_ends, kept_corners, kept_ends}

abbrev o : Float
o = fin false 0 (pos 0)

abbrev minus_o : Float
minus_o = fin true 0 (pos 0)

abbrev one : Float
one = fin false 1 (pos 0)

-- 100,000, and the whole number after it
abbrev most : Float
most = fin false 3125 (pos 5)

abbrev over : Float
over = fin false 100001 (pos 0)

-- a ring with a corner for each of the reasons 1 to 4; a pair of corners, unlike in bits, that is too few; a ring of none; a triangle at the limit
abbrev corners : List Float
corners = nan ∷ o ∷ o ∷ o ∷ o ∷ o ∷ over ∷ o ∷ most ∷ o ∷ one ∷ one ∷ o ∷ o ∷ o ∷ o ∷ minus_o ∷ o ∷ o ∷ o ∷ one ∷ inf true ∷ minus_o ∷ o ∷ one ∷ one ∷ []

abbrev ends : List ℕ
ends = 7 ∷ 9 ∷ 9 ∷ 13 ∷ []

pub told : (marks corners ends ≡ 1 ∷ 0 ∷ 3 ∷ 2 ∷ 0 ∷ 0 ∷ 4 ∷ 5 ∷ 5 ∷ 0 ∷ 1 ∷ 0 ∷ 0 ∷ [])
    × (dropped_places 0 (marks corners ends) ≡ 0 ∷ 2 ∷ 3 ∷ 6 ∷ 7 ∷ 8 ∷ 10 ∷ [])
    × (dropped_reasons (marks corners ends) ≡ 1 ∷ 3 ∷ 2 ∷ 4 ∷ 5 ∷ 5 ∷ 1 ∷ [])
unfolding marks dropped_places dropped_reasons rings cut points ring_marks strays stray same closed closes mark_last cleared left finite good_point good_number largest magnitude le lt eq to_bits of_int round size
told = (refl, refl, refl)

pub left_over : (kept_corners corners ends ≡ o ∷ o ∷ most ∷ o ∷ one ∷ one ∷ o ∷ o ∷ minus_o ∷ o ∷ one ∷ one ∷ []) × (kept_ends corners ends ≡ 3 ∷ 3 ∷ 3 ∷ 6 ∷ [])
unfolding kept_corners kept_ends kept_rings kept_ring ring_ends flat rings cut points ring_marks strays stray same closed closes mark_last cleared left finite good_point good_number largest magnitude le lt eq to_bits of_int round size
left_over = (refl, refl)

-- not finite and beyond at once is told as not finite; a closed triangle of two corners left falls with its last corner's own reason
pub first_reason : (marks (over ∷ nan ∷ []) (1 ∷ []) ≡ 1 ∷ []) × (marks (o ∷ o ∷ one ∷ o ∷ o ∷ o ∷ []) (3 ∷ []) ≡ 5 ∷ 5 ∷ 4 ∷ [])
unfolding marks rings cut points ring_marks strays stray same closed closes mark_last cleared left finite good_point good_number largest magnitude le lt eq to_bits of_int round size
first_reason = (refl, refl)
