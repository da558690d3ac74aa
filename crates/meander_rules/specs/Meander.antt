-- A wandering line for backgrounds, in the words of request [9] and the source's patterns.rs. Definitions only.
use Rattle.std.specs.Prelude.{ℕ, zero, suc, ◌+◌, ◌-◌, ◌*◌, ◌/◌, ◌%◌, ◌^◌, max, Bool, ◌&&◌, cond, List, [], ◌∷◌, ◌++◌, map, eqb, ltb, length, get_or, take, drop, set, pos, Float}
use Rattle.std.specs.Int.Bits.{bit_xor}
use Rattle.std.specs.Float.Ieee.{to_unsigned}
use Rattle.numbers.specs.Num.{◌⊕◌, ◌⊖◌, ◌⊗◌, ◌⊘◌, real, literal}
use Rattle.numbers.specs.Order.{finite, larger}
use Rattle.numbers.specs.Whole.{ceil}
use Rattle.seqs.specs.Lists.{upto, keep_if, sift, each, fold}
use Rattle.geom.specs.declared.point.P.{P}
use Rattle.geom.specs.Point.{point, lerp}
use Rattle.outlines.specs.declared.rule.FillRule.{FillRule}
use Rattle.outlines.specs.Inside.{point_inside, segment_inside}
use Rattle.polyline.specs.Line.{resample_keep_corners}
use Rattle.patterns_rules.specs.declared.Bounds.{Bounds}
use Rattle.patterns_rules.specs.Patterns.{bounds, clip_inside}
use Rattle.meander_rules.specs.declared.Lattice.{Lattice}

-- ---- the grid

-- how many points from lo to hi, one each spacing, both ends among them
unfoldable pub points_over : Float → Float → Float → ℕ
points_over lo hi spacing = to_unsigned 64 (ceil ((hi ⊖ lo) ⊘ spacing)) + 1

-- the grid over these bounds; with no corners it has no point
unfoldable pub lattice_in : Bounds → Float → Lattice
lattice_in b spacing =
    let some = finite b.left in
    record { left = b.left; top = b.top; spacing = spacing; columns = cond some (points_over b.left b.right spacing) 0; rows = cond some (points_over b.top b.bottom spacing) 0 }

unfoldable pub lattice_of : List (List P) → Float → Lattice
lattice_of rings spacing = lattice_in (bounds rings) spacing

-- grid points are numbered row by row
abbrev pub points_of : Lattice → ℕ
points_of g = g.columns * g.rows

-- where point k stands
unfoldable pub place : Lattice → ℕ → P
place g k = point (g.left ⊕ real (pos (k % g.columns)) ⊗ g.spacing) (g.top ⊕ real (pos (k / g.columns)) ⊗ g.spacing)

unfoldable pub inside_at : List (List P) → FillRule → Lattice → ℕ → Bool
inside_at rings rule g k = point_inside rings rule (place g k)

-- whether the way from point a to point b stays inside: its points one each 2.0
unfoldable pub link_ok : List (List P) → FillRule → Lattice → ℕ → ℕ → Bool
link_ok rings rule g a b = segment_inside rings rule (place g a) (place g b) (real (pos 2))

-- ---- the random source, xorshift on 64 bits

unfoldable pub first_seed : ℕ → ℕ
first_seed seed = bit_xor (max seed 1) 0x9E37_79B9_7F4A_7C15

-- a left shift drops the bits past 64
unfoldable pub next_seed : ℕ → ℕ
next_seed x =
    let a = bit_xor x (x * 2 ^ 13 % 2 ^ 64) in
    let b = bit_xor a (a / 2 ^ 7) in
    bit_xor b (b * 2 ^ 17 % 2 ^ 64)

-- ---- the four ways on from a point, shuffled

-- left, right, up and down
unfoldable pub neighbours : Lattice → ℕ → List ℕ
neighbours g here =
    let c = here % g.columns in
    let r = here / g.columns in
    keep_if (ltb 0 c) (here - 1) (keep_if (ltb (c + 1) g.columns) (here + 1) (keep_if (ltb 0 r) (here - g.columns) (keep_if (ltb (r + 1) g.rows) (here + g.columns) [])))

unfoldable pub swap : List ℕ → ℕ → ℕ → List ℕ
swap l i j = set (set l i (get_or l j 0)) j (get_or l i 0)

-- a list in an order, and the random source after it
pub record Order : Type 0 where
  pub order : List ℕ
  pub seed : ℕ

-- the places i, i - 1, .., 1 each swapped with one that is not behind it
unfoldable pub shuffle_from : ℕ → List ℕ → ℕ → Order
shuffle_from zero l seed = record { order = l; seed = seed }
shuffle_from (suc i) l seed = let x = next_seed seed in shuffle_from i (swap l (suc i) (x % (i + 2))) x

unfoldable pub shuffle : List ℕ → ℕ → Order
shuffle l seed = shuffle_from (length l - 1) l seed

-- ---- a walk: depth first, back along its own path where it is stuck

-- `free` has 1 for a grid point that is inside and not visited yet, otherwise 0; the stack's top stands first
pub record Walk : Type 0 where
  pub free : List ℕ
  pub stack : List ℕ
  pub path : List ℕ
  pub seed : ℕ

unfoldable pub is_free : List ℕ → ℕ → Bool
is_free free k = eqb (get_or free k 0) 1

-- the first free one of these over an allowed link from here, if there is one
unfoldable pub open_way : (ℕ → ℕ → Bool) → List ℕ → ℕ → List ℕ → List ℕ
open_way link free here ways = take 1 (sift (λ n. is_free free n && link here n) ways)

-- on to n
unfoldable pub go_on : ℕ → Walk → Walk
go_on n w = record { free = set w.free n 0; stack = n ∷ w.stack; path = w.path ++ (n ∷ []); seed = w.seed }

-- back to the point before, if there is one
unfoldable pub go_back : Walk → Walk
go_back w = record { free = w.free; stack = drop 1 w.stack; path = w.path ++ take 1 (drop 1 w.stack); seed = w.seed }

unfoldable pub move : List ℕ → Walk → Walk
move [] w = go_back w
move (n ∷ ways) w = go_on n w

-- the walks so far: their paths, what they left free, and the random source
pub record Walks : Type 0 where
  pub paths : List (List ℕ)
  pub free : List ℕ
  pub seed : ℕ

-- one turn of the walk; with an empty stack it is over
module _ (g : Lattice) (link : ℕ → ℕ → Bool) where
  unfoldable pub turn_from : List ℕ → Walk → Walk
  turn_from [] w = w
  turn_from (here ∷ stack) w =
      let s = shuffle (neighbours g here) w.seed in
      move (open_way link w.free here s.order) (record { free = w.free; stack = w.stack; path = w.path; seed = s.seed })

  unfoldable pub turn : Walk → Walk
  turn w = turn_from w.stack w

  unfoldable pub turns : ℕ → Walk → Walk
  turns zero w = w
  turns (suc n) w = turns n (turn w)

  -- each point is entered once and left once: two turns a point are enough
  unfoldable pub walk_from : ℕ → List ℕ → ℕ → Walk
  walk_from start free seed = turns (2 * points_of g) (record { free = set free start 0; stack = start ∷ []; path = start ∷ []; seed = seed })

  -- ---- all walks: from each point in turn that is still free then; the random source goes on

  unfoldable pub walked : ℕ → Walks → Walks
  walked start w =
      let v = walk_from start w.free w.seed in
      record { paths = w.paths ++ (v.path ∷ []); free = v.free; seed = v.seed }

  unfoldable pub start_at : ℕ → Walks → Walks
  start_at start w = cond (is_free w.free start) (walked start w) w

  unfoldable pub walks_of : List ℕ → ℕ → Walks
  walks_of free seed = fold start_at (record { paths = []; free = free; seed = seed }) (upto 0 (points_of g))

-- ---- the line along a path

-- 1 for each point that is inside
unfoldable pub free_at_first : List (List P) → FillRule → Lattice → List ℕ
free_at_first rings rule g = map (λ k. cond (inside_at rings rule g k) 1 0) (upto 0 (points_of g))

unfoldable pub paths_of : List (List P) → FillRule → Lattice → ℕ → List (List ℕ)
paths_of rings rule g seed = (walks_of g (link_ok rings rule g) (free_at_first rings rule g) (first_seed seed)).paths

-- corners rounded: of each step the points at 0.3 and 0.7 of it, and the path's two ends
unfoldable pub smooth_from : P → List P → List P
smooth_from p [] = p ∷ []
smooth_from p (q ∷ ps) = lerp p q (literal 3 10) ∷ lerp p q (literal 7 10) ∷ smooth_from q ps

-- a path of one point gives no line
unfoldable pub smooth : List P → List P
smooth [] = []
smooth (p ∷ []) = []
smooth (p ∷ q ∷ ps) = p ∷ smooth_from p (q ∷ ps)

-- stitches every len, of 5.0 at least, and of those what lies inside
unfoldable pub dense_along : Lattice → Float → List ℕ → List P
dense_along g len path = resample_keep_corners (smooth (map (place g) path)) (larger len (real (pos 5)))

unfoldable pub lines_along : List (List P) → FillRule → Lattice → Float → List ℕ → List (List P)
lines_along rings rule g len path = clip_inside (dense_along g len path) rings rule

-- ---- all lines; a grid of over 400,000 points gives none

abbrev pub most_points : ℕ
most_points = 400000

unfoldable pub meander_on : List (List P) → FillRule → Lattice → Float → ℕ → List (List P)
meander_on rings rule g len seed = each (lines_along rings rule g len) (paths_of rings rule g seed)

unfoldable pub meander : List (List P) → FillRule → Float → Float → ℕ → List (List P)
meander rings rule spacing len seed =
    let g = lattice_of rings spacing in
    cond (ltb most_points (points_of g)) [] (meander_on rings rule g len seed)
