-- A satin column: underlay passes, then the top, as satin.rs sews it. Definitions only.
use Rattle.std.specs.Prelude.{ℕ, zero, suc, ◌+◌, ◌-◌, ◌/◌, ◌%◌, Bool, true, false, not, ◌&&◌, cond, Option, None, Some, List, [], ◌∷◌, ◌++◌, map, reverse, eqb, pos, Float}
use Rattle.std.specs.Float.Ieee.{neg, lt, to_unsigned}
use Rattle.numbers.specs.Num.{◌⊕◌, ◌⊗◌, ◌⊘◌, real, literal, half, zero64}
use Rattle.numbers.specs.Whole.{ceil}
use Rattle.numbers.specs.Order.{smaller}
use Rattle.geom.specs.declared.point.P.{P}
use Rattle.geom.specs.Point.{plus, minus, times, len, dist, norm, perp, lerp, one}
use Rattle.satinrules.specs.declared.Pair.{Pair}
use Rattle.satinrules.specs.declared.Satin.{Satin}
use Rattle.satinrules.specs.declared.Style.{Style}
use Rattle.satinrules.specs.declared.Style.TheVariants.{Plain, SStitch, Zigzag}
use Rattle.satinrules.specs.Settings.{short_dist, short_inset, underlay_inset, zigzag_underlay_spacing}
use Rattle.satinrules.specs.Pairs.{Rails, few, pairs}

abbrev pub turned_if : {A : Type 0} → Bool → List A → List A
turned_if true l = reverse l
turned_if false l = l

abbrev pub only_if : {A : Type 0} → Bool → List A → List A
only_if true l = l
only_if false l = []

-- ---- underlay: `end` says that the needle is at the column's end

-- both points this far inside the rails, at most a quarter of the width
unfoldable pub inset : Pair → Pair
inset q =
    let d = smaller underlay_inset (dist q.a q.b ⊗ literal 1 4) in
    record { a = plus q.a (times (norm (minus q.b q.a)) d); b = plus q.b (times (norm (minus q.a q.b)) d) }

unfoldable pub middle : Pair → P
middle q = lerp q.a q.b half

-- a and b in turn, b first where `second`
unfoldable pub alternate : Bool → List Pair → List P
alternate second [] = []
alternate second (q ∷ qs) = cond second q.b q.a ∷ alternate (not second) qs

unfoldable pub centre_pass : Rails → Satin → Bool → List P
centre_pass r g end = turned_if end (map middle (pairs r g.run_len))

-- out along one side and back along the other
unfoldable pub contour_pass : Rails → Satin → Bool → List P
contour_pass r g end =
    let qs = map inset (pairs r g.run_len) in
    turned_if end (map (λ q. q.a) qs) ++ turned_if (not end) (map (λ q. q.b) qs)

unfoldable pub zigzag_pass : Rails → Bool → List P
zigzag_pass r end = turned_if end (alternate false (map inset (pairs r zigzag_underlay_spacing)))

-- the underlay's bits: 1 centre, 2 contour, 4 zigzag
abbrev pub bit : Satin → ℕ → Bool
bit g k = eqb (g.underlay / k % 2) 1

-- centre and zigzag turn the travelling end where they are sewn; contour doesn't
unfoldable pub after_centre : Satin → Bool
after_centre g = bit g 1

unfoldable pub after_zigzag : Satin → Bool
after_zigzag g = cond (bit g 4) (not (after_centre g)) (after_centre g)

unfoldable pub underlay : Rails → Satin → List P
underlay r g = only_if (bit g 1) (centre_pass r g false) ++ (only_if (bit g 2) (contour_pass r g (after_centre g)) ++ only_if (bit g 4) (zigzag_pass r (after_centre g)))

-- whether the thread ends at the far end once the underlay is sewn; where a rail has under 2 corners there is no thread
unfoldable pub far_end : Rails → Satin → Bool
far_end r g = not (few r) && after_zigzag g

-- ---- the top's stitches

-- both points moved out by the pull
unfoldable pub widened : Satin → Pair → Pair
widened g q =
    let dir = norm (minus q.a q.b) in
    record { a = plus q.a (times dir g.pull); b = minus q.b (times dir g.pull) }

-- whether p lies too near to o
unfoldable pub crowded : P → P → Bool
crowded p o = lt (dist p o) short_dist

-- p, moved towards q where it is to be short
unfoldable pub pulled : P → P → Float → Bool → P
pulled p q by short = cond short (plus p (times (norm (minus q p)) by)) p

-- the two points of q, after o; every second pair is shortened where its rail is crowded, b2 towards the moved a2
unfoldable pub stitch : Satin → Bool → Pair → Pair → List P
stitch g second o q =
    let w = widened g q in
    let by = dist w.a w.b ⊗ short_inset in
    let short = g.short_stitches && second in
    let a2 = pulled w.a w.b by (short && crowded q.a o.a) in
    a2 ∷ pulled w.b a2 by (short && crowded q.b o.b) ∷ []

unfoldable pub stitches_from : Satin → Bool → Pair → List Pair → List P
stitches_from g second o [] = []
stitches_from g second o (q ∷ qs) = stitch g second o q ++ stitches_from g (not second) q qs

unfoldable pub stitches : Satin → List Pair → List P
stitches g [] = []
stitches g (q ∷ qs) = stitches_from g false q (q ∷ qs)

-- ---- styles: a path whose side k from p to q becomes what f k p q puts between them

unfoldable pub sides_from : (ℕ → P → P → List P) → ℕ → P → List P → List P
sides_from f k p [] = []
sides_from f k p (q ∷ ps) = f k p q ++ (q ∷ sides_from f (k + 1) q ps)

unfoldable pub sides : (ℕ → P → P → List P) → List P → List P
sides f [] = []
sides f (p ∷ ps) = p ∷ sides_from f 0 p ps

-- 0, 0.33, -0.33
unfoldable pub stagger : ℕ → Float
stagger k = cond (eqb (k % 3) 0) zero64 (cond (eqb (k % 3) 1) (literal 33 100) (neg (literal 33 100)))

-- how many parts a side is split in
unfoldable pub parts_of : P → P → Float → ℕ
parts_of p q max = to_unsigned 64 (ceil (dist p q ⊘ max))

-- where part j of n ends, with its stagger
unfoldable pub part_end : P → P → ℕ → Float → ℕ → P
part_end p q n shift j = lerp p q (real (pos j) ⊘ real (pos n) ⊕ shift)

-- the ends of parts j, j + 1, .. of n, `left` of them
unfoldable pub parts_from : P → P → ℕ → Float → ℕ → ℕ → List P
parts_from p q n shift j zero = []
parts_from p q n shift j (suc left) = part_end p q n shift j ∷ parts_from p q n shift (j + 1) left

unfoldable pub split_side : Float → ℕ → P → P → List P
split_side max k p q = let n = parts_of p q max in parts_from p q n (stagger k ⊘ real (pos n)) 1 (n - 1)

-- sideways by min(0.18·len, 8.0), to the left of even sides and to the right of odd ones
unfoldable pub bend : ℕ → P → P → P
bend k p q =
    let d = minus q p in
    times (times (perp (norm d)) (smaller (len d ⊗ literal 18 100) (literal 8 1))) (cond (eqb (k % 2) 0) one (neg one))

-- only lengths above 6.0 bend
unfoldable pub bends : P → P → Bool
bends p q = lt (literal 6 1) (len (minus q p))

unfoldable pub s_side : ℕ → P → P → List P
s_side k p q = only_if (bends p q) (plus (lerp p q (literal 3 10)) (bend k p q) ∷ minus (lerp p q (literal 7 10)) (bend k p q) ∷ [])

unfoldable pub split_long : List P → Float → List P
split_long ps max = sides (split_side max) ps

unfoldable pub s_stitch : List P → List P
s_stitch ps = sides s_side ps

-- the zigzag style triples the spacing
unfoldable pub spaced : Style → Float → Float
spaced Plain spacing = spacing
spaced SStitch spacing = spacing
spaced Zigzag spacing = spacing ⊗ literal 3 1

abbrev pub spacing_of : Satin → Float
spacing_of g = spaced g.style g.spacing

unfoldable pub split_by : Option Float → List P → List P
split_by None ps = ps
split_by (Some max) ps = split_long ps max

unfoldable pub styled : Option Float → Style → List P → List P
styled s Plain ps = split_by s ps
styled s SStitch ps = s_stitch ps
styled s Zigzag ps = ps

-- turned round where the thread is at the far end
unfoldable pub top : Bool → Rails → Satin → List P
top far r g = turned_if far (styled g.split g.style (stitches g (pairs r (spacing_of g))))

-- ---- the column: the top goes on from where the underlay ends

unfoldable pub column : Rails → Satin → List P
column r g = underlay r g ++ top (far_end r g) r g
