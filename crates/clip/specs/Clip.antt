-- Clipping point by point: what each piece of the line adds to the points and to the ends. Definitions only.
use Rattle.std.specs.Prelude.{ℕ, ◌+◌, Bool, true, false, List, [], ◌∷◌, ◌++◌, length, Float}
use Rattle.geom.specs.declared.point.P.{P}
use Rattle.outlines.specs.declared.area.Area.{Area}
use Rattle.outlines.specs.declared.rule.FillRule.{FillRule}
use Rattle.geom.specs.Outline.{points, rings}
use Rattle.patterns_rules.specs.Patterns.{piece_inside, clip_inside}

-- the runs of a flat line inside flat rings
abbrev pub clipped : List Float → List Float → List ℕ → FillRule → List (List P)
clipped line corners ends rule = clip_inside (points line) (rings corners ends) rule

abbrev pub clipped_in : List Float → Area → List (List P)
clipped_in line a = clipped line a.outline.corners.now a.outline.ends.now a.rule

-- the points that the piece from p to q adds: none where it isn't kept, its end where a run is on, both its ends where none is
abbrev pub added : Bool → Bool → P → P → List P
added true true p q = q ∷ []
added true false p q = p ∷ q ∷ []
added false on p q = []

-- the end of the run that the piece closes, n points having been kept
abbrev pub ended : Bool → Bool → ℕ → List ℕ
ended true on n = []
ended false true n = n ∷ []
ended false false n = []

-- of the line from p on
unfoldable pub points_from : List (List P) → FillRule → Bool → P → List P → List P
points_from rings rule on p [] = []
points_from rings rule on p (q ∷ line) =
    let kept = piece_inside rings rule p q in
    added kept on p q ++ points_from rings rule kept q line

unfoldable pub ends_from : List (List P) → FillRule → Bool → ℕ → P → List P → List ℕ
ends_from rings rule on n p [] = ended false on n
ends_from rings rule on n p (q ∷ line) =
    let kept = piece_inside rings rule p q in
    ended kept on n ++ ends_from rings rule kept (n + length (added kept on p q)) q line
