-- Document 01's answers of the geometry: the number and the value of each case, and each call's checks in the table's order. Definitions only.
use Rattle.std.specs.Prelude.{ℕ, Bool, List, ℤ, Float}
use Rattle.refusal.specs.Refusal.{DONE, LAYOUT, NUMBER, SETTING, TURN, Answer, unless, answer, ◌then◌}
use Rattle.geom.specs.declared.point.P.{P}
use Rattle.outlines.specs.declared.rule.FillRule.{FillRule}
use Rattle.geom.specs.Point.{dot, len, dist, norm, perp, rotate, lerp, cross}
use Rattle.geom.specs.Outline.{rings}
use Rattle.outlines.specs.Winding.{winding}
use Rattle.outlines.specs.Inside.{inside, point_inside, segment_inside}
use Rattle.limits.specs.Limits.{good_number, good_point, good_numbers, good_turn, good_step, good_outline}

-- ---- the checks

abbrev pub one_point : P → ℕ
one_point a = unless NUMBER (good_point a)

abbrev pub two_points : P → P → ℕ
two_points a b = unless NUMBER (good_point a) then unless NUMBER (good_point b)

-- of an outline: its layout, then its corners
abbrev pub outline : List Float → List ℕ → ℕ
outline corners ends = unless LAYOUT (good_outline corners ends) then unless NUMBER (good_numbers corners)

-- ---- the calls

unfoldable pub dot_answer : P → P → Answer Float
dot_answer a o = answer (two_points a o) (dot a o)

unfoldable pub len_answer : P → Answer Float
len_answer a = answer (one_point a) (len a)

unfoldable pub dist_answer : P → P → Answer Float
dist_answer a o = answer (two_points a o) (dist a o)

unfoldable pub norm_answer : P → Answer P
norm_answer a = answer (one_point a) (norm a)

unfoldable pub perp_answer : P → Answer P
perp_answer a = answer (one_point a) (perp a)

unfoldable pub rotate_answer : P → Float → Float → Answer P
rotate_answer a c s = answer (one_point a then unless TURN (good_turn c s)) (rotate a c s)

unfoldable pub lerp_answer : P → P → Float → Answer P
lerp_answer a o t = answer (two_points a o then unless NUMBER (good_number t)) (lerp a o t)

unfoldable pub cross_answer : P → P → Answer Float
cross_answer a b = answer (two_points a b) (cross a b)

unfoldable pub inside_answer : FillRule → ℤ → Answer Bool
inside_answer rule w = answer DONE (inside rule w)

unfoldable pub winding_answer : List Float → List ℕ → P → Answer ℤ
winding_answer corners ends p = answer (outline corners ends then one_point p) (winding (rings corners ends) p)

unfoldable pub point_inside_answer : List Float → List ℕ → FillRule → P → Answer Bool
point_inside_answer corners ends rule p = answer (outline corners ends then one_point p) (point_inside (rings corners ends) rule p)

unfoldable pub segment_inside_answer : List Float → List ℕ → FillRule → P → P → Float → Answer Bool
segment_inside_answer corners ends rule a b step =
    answer (outline corners ends then two_points a b then unless SETTING (good_step step)) (segment_inside (rings corners ends) rule a b step)
