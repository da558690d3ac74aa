-- Small meanders, by computation: the source's code run on the same input gives the same. Assumes nothing.
use Rattle.std.specs.Prelude.{ℕ, ◌≡◌, refl, false, List, [], ◌∷◌, pos, negsuc}
use Rattle.std.specs.Float.{fin}
use Rattle.std.specs.Float.Ieee.{lt, le, eq, neg, add, sub, mul, div, of_int, round, to_signed, to_unsigned, odd, size, is_nan}
use Rattle.numbers.specs.Num.{real, literal}
use Rattle.numbers.specs.Order.{negative, finite, before, smaller, larger}
use Rattle.numbers.specs.Whole.{whole_of, floor, ceil}
use Rattle.numbers.specs.Root.{isqrt, near_root, root_units, root}
use Rattle.geom.specs.declared.point.P.{P}
use Rattle.outlines.specs.declared.rule.FillRule.TheVariants.{NonZero}
use Rattle.geom.specs.Point.{point, len, dist, lerp}
use Rattle.geom.specs.Steps.{steps, along}
use Rattle.outlines.specs.Winding.{edge, edges, ring, winding}
use Rattle.outlines.specs.Inside.{inside, point_inside, steps_inside, segment_inside}
use Rattle.polyline.specs.Line.{shortest, piece_steps, steps_from, step_ends, piece, pieces_from, pieces, resample_keep_corners}
use Rattle.patterns_rules.specs.Patterns.{bounds, piece_inside, closed, opened, runs_from, clip_inside}
use Rattle.meander_rules.specs.Meander.{points_over, lattice_in, lattice_of, place, inside_at, link_ok, first_seed, next_seed, neighbours, swap, shuffle_from, shuffle, is_free, open_way, go_on, go_back, move, turn_from, turn, turns, walk_from, walked, start_at, walks_of, free_at_first, paths_of, smooth_from, smooth, dense_along, lines_along, meander_on, meander}

abbrev pt : ℕ → ℕ → P
pt x y = point (real (pos x)) (real (pos y))

-- a rectangle
abbrev box : ℕ → ℕ → List (List P)
box w h = (pt 0 0 ∷ pt w 0 ∷ pt w h ∷ pt 0 h ∷ []) ∷ []

-- the random source from seed 7 on
pub seed_7 : next_seed (first_seed 7) ≡ 15860402109581995114
unfolding first_seed next_seed
seed_7 = refl

-- the points left, right, up and down of the middle of a grid of 3 by 3, shuffled
pub shuffled_7 : (shuffle (3 ∷ 5 ∷ 1 ∷ 7 ∷ []) (first_seed 7)).order ≡ 7 ∷ 5 ∷ 3 ∷ 1 ∷ []
unfolding shuffle shuffle_from swap next_seed first_seed
shuffled_7 = refl

-- a square of 10 with points 5 apart: of nine the four at the upper left are inside, and the walk sees them all
pub walk_7 : paths_of (box 10 10) NonZero (lattice_of (box 10 10) (real (pos 5))) 7 ≡ (0 ∷ 3 ∷ 4 ∷ 1 ∷ 4 ∷ 3 ∷ 0 ∷ []) ∷ []
unfolding paths_of free_at_first walks_of start_at walked walk_from turns turn turn_from move go_back go_on open_way is_free shuffle shuffle_from swap neighbours next_seed first_seed link_ok inside_at place lattice_of lattice_in points_over bounds segment_inside steps_inside point_inside inside winding ring edges edge steps along len dist lerp root root_units near_root isqrt floor ceil whole_of smaller larger before negative finite literal odd size is_nan to_signed to_unsigned of_int round add sub mul div neg lt le eq
walk_7 = refl

-- a strip of 10 by 4, in which two points are: 1.5 and 3.5 of the way of 5; the piece from 3.5 to 3.5, where the walk turns, is skipped
pub strip_7 : meander (box 10 4) NonZero (real (pos 5)) (real (pos 5)) 7 ≡ (pt 0 0 ∷ point (fin false 3 (negsuc 0)) (real (pos 0)) ∷ point (fin false 7 (negsuc 0)) (real (pos 0)) ∷ point (fin false 3 (negsuc 0)) (real (pos 0)) ∷ pt 0 0 ∷ []) ∷ []
unfolding meander meander_on lines_along dense_along smooth smooth_from paths_of free_at_first walks_of start_at walked walk_from turns turn turn_from move go_back go_on open_way is_free shuffle shuffle_from swap neighbours next_seed first_seed link_ok inside_at place lattice_of lattice_in points_over resample_keep_corners pieces pieces_from piece step_ends steps_from piece_steps shortest bounds clip_inside runs_from opened closed piece_inside segment_inside steps_inside point_inside inside winding ring edges edge steps along len dist lerp root root_units near_root isqrt floor ceil whole_of smaller larger before negative finite literal odd size is_nan to_signed to_unsigned of_int round add sub mul div neg lt le eq
strip_7 = refl
