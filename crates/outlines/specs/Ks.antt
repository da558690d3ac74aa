-- Document 01's checks K7 and K8, of the definitions, by computation.
use Rattle.std.specs.Prelude.{ℕ, ◌≡◌, refl, true, false, List, [], ◌∷◌, pos, Float}
use Rattle.std.specs.Float.Ieee.{lt, le, eq, neg, add, sub, mul, of_int, round}
use Rattle.numbers.specs.Num.{real}
use Rattle.outlines.specs.declared.rule.FillRule.TheVariants.{NonZero}
use Rattle.geom.specs.Point.{point}
use Rattle.geom.specs.Outline.{points, cut, rings}
use Rattle.outlines.specs.Winding.{edge, edges, ring, winding}
use Rattle.outlines.specs.Inside.{inside, point_inside}

abbrev n : ℕ → Float
n k = real (pos k)

-- the square Q: flat corners, one ring
abbrev pub corners : List Float
corners = n 0 ∷ n 0 ∷ n 10 ∷ n 0 ∷ n 10 ∷ n 10 ∷ n 0 ∷ n 10 ∷ []

abbrev pub ends : List ℕ
ends = 4 ∷ []

-- K7: (0,5) is inside Q
pub k7 : point_inside (rings corners ends) NonZero (point (n 0) (n 5)) ≡ true
unfolding point_inside inside winding ring edges edge rings cut points of_int round add sub mul neg lt le eq
k7 = refl

-- K8: (10,5) is outside
pub k8 : point_inside (rings corners ends) NonZero (point (n 10) (n 5)) ≡ false
unfolding point_inside inside winding ring edges edge rings cut points of_int round add sub mul neg lt le eq
k8 = refl
