-- A line of corners: its length, and the stitches along it that keep every corner, as geom.rs works them out. Definitions only.
use Rattle.std.specs.Prelude.{ℕ, zero, suc, ◌+◌, ◌^◌, cond, List, [], ◌∷◌, ◌++◌, take, Float}
use Rattle.std.specs.Float.Ieee.{lt}
use Rattle.numbers.specs.Num.{◌⊕◌, literal, zero64}
use Rattle.geom.specs.declared.point.P.{P}
use Rattle.geom.specs.Point.{dist}
use Rattle.geom.specs.Steps.{steps, along}

-- ---- the length

-- the sum so far, and the pieces from p on
unfoldable pub length_from : Float → P → List P → Float
length_from sum p [] = sum
length_from sum p (q ∷ ps) = length_from (sum ⊕ dist p q) q ps

unfoldable pub polyline_length : List P → Float
polyline_length [] = zero64
polyline_length (p ∷ ps) = length_from zero64 p ps

-- ---- resampling

-- 1e-9: a shorter piece is skipped
unfoldable pub shortest : Float
shortest = literal 1 (10 ^ 9)

-- how many steps a piece is cut in: none where it is skipped
unfoldable pub piece_steps : P → P → Float → ℕ
piece_steps a b len = cond (lt (dist a b) shortest) 0 (steps (dist a b) len)

-- the ends of the steps i, i + 1, .. of n, `left` of them
unfoldable pub steps_from : P → P → ℕ → ℕ → ℕ → List P
steps_from a b n i zero = []
steps_from a b n i (suc left) = along a b n i ∷ steps_from a b n (i + 1) left

-- the ends of all n steps from a to b: the last is the corner b itself
unfoldable pub step_ends : P → P → ℕ → List P
step_ends a b zero = []
step_ends a b (suc n) = steps_from a b (suc n) 1 n ++ (b ∷ [])

unfoldable pub piece : P → P → Float → List P
piece a b len = step_ends a b (piece_steps a b len)

-- the pieces from p on
unfoldable pub pieces_from : P → List P → Float → List P
pieces_from p [] len = []
pieces_from p (q ∷ ps) len = piece p q len ++ pieces_from q ps len

-- all after the first corner
unfoldable pub pieces : List P → Float → List P
pieces [] len = []
pieces (p ∷ ps) len = pieces_from p ps len

unfoldable pub resample_keep_corners : List P → Float → List P
resample_keep_corners ps len = take 1 ps ++ pieces ps len
