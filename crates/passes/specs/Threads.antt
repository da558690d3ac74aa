-- Pairs in a slice, and the points that a pass takes of them. Definitions only.
use Rattle.std.specs.Prelude.{ℕ, ◌+◌, ◌%◌, Bool, cond, List, [], ◌∷◌, eqb, Float}
use Rattle.numbers.specs.Num.{◌⊗◌}
use Rattle.geom.specs.declared.point.P.{P}
use Rattle.geom.specs.Point.{dist}
use Rattle.geom.specs.OutlineLaws.{corner_at}
use Rattle.satinrules.specs.declared.Pair.{Pair}
use Rattle.satinrules.specs.Settings.{short_inset}
use Rattle.satinrules.specs.Column.{middle, inset, pulled}
use Rattle.passes.specs.declared.threads.Thread.{Thread}
use Rattle.passes.specs.declared.threads.Thread.TheVariants.{Middle, SideA, SideB, Alternate}

-- the pair whose numbers begin at place i
abbrev pub pair_in : List Float → ℕ → Pair
pair_in s i = record { a = corner_at s i; b = corner_at s (i + 2) }

-- points, two by two
unfoldable pub pairs_in : List P → List Pair
pairs_in [] = []
pairs_in (p ∷ []) = []
pairs_in (p ∷ q ∷ ps) = record { a = p; b = q } ∷ pairs_in ps

-- the point that a pass takes of pair j
unfoldable pub point_of : Thread → ℕ → Pair → P
point_of Middle j q = middle q
point_of SideA j q = (inset q).a
point_of SideB j q = (inset q).b
point_of Alternate j q = cond (eqb (j % 2) 1) (inset q).b (inset q).a

-- those of the pairs from j on
unfoldable pub thread_from : Thread → ℕ → List Pair → List P
thread_from t j [] = []
thread_from t j (q ∷ qs) = point_of t j q ∷ thread_from t (j + 1) qs

abbrev pub thread_of : Thread → List Pair → List P
thread_of t qs = thread_from t 0 qs

-- both points of a stitch moved in where they are to be short, the second towards the moved first
unfoldable pub moved_in : Pair → Bool → Bool → Pair
moved_in w near far =
    let by = dist w.a w.b ⊗ short_inset in
    let a2 = pulled w.a w.b by near in
    record { a = a2; b = pulled w.b a2 by far }
