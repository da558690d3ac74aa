-- The heights of an outline: for each block of eight sides, and for each ring, three numbers. None of its corners lies below the first, none above the
-- second and none to the right of the third. Definitions only.
use Rattle.std.specs.Prelude.{ℕ, ◌+◌, ◌-◌, ◌*◌, ◌≤◌, ◌<◌, ◌≡◌, true, false, List, ◌∷◌, T, length, take, drop, get_or, pos, Float}
use Rattle.std.specs.Float.{nan}
use Rattle.std.specs.Float.Ieee.{lt, le}
use Rattle.numbers.specs.Value.{Within}
use Rattle.geom.specs.declared.point.P.{P}
use Rattle.geom.specs.Point.{point}
use Rattle.geom.specs.Outline.{points, Layout}
use Rattle.outlines.specs.Runs.{chain}

-- the corner (x, y) is no farther right than z, and both are small enough for their differences and products
pub record Left (x y z : Float) : Type 0 where
  pub west : T (le x z)
  pub wide : Within 20 x
  pub tall : Within 20 y

-- its y is at most no y below lo, and at most each y from hi on; right of `right` it lies to the left
pub record Lies (lo hi right : Float) (a : P) : Type 0 where
  pub high : (y : Float) → lt y lo ≡ true → le a.y y ≡ false
  pub low : (y : Float) → le hi y ≡ true → le a.y y ≡ true
  pub left : (x : Float) → lt right x ≡ true → Left a.x a.y x

-- a lies as t says of block b
abbrev pub LiesIn : List Float → ℕ → P → Type 0
LiesIn t b a = Lies (get_or t (3 * b) nan) (get_or t (3 * b + 1) nan) (get_or t (3 * b + 2) nan) a

-- so do the corners l, if t has that block
abbrev pub Block : ℕ → List P → List Float → Type 0
Block b l t = (k : ℕ) → 3 * b + 2 < length t → k < length l → LiesIn t b (get_or l k (point nan nan))

-- the sides between corners that lie so add nothing at p
abbrev pub Beside : List Float → ℕ → P → Type 0
Beside t b p = (l : List P) → ((k : ℕ) → k < length l → LiesIn t b (get_or l k (point nan nan))) → chain p l ≡ pos 0

-- of the first 128 blocks t has the heights of an outline in which the corners l stand from place a on; where it is short, it says nothing
abbrev pub Heights : ℕ → List P → List Float → Type 0
Heights a l t = (b k : ℕ) → b < 128 → 3 * b + 2 < length t → k < length l → 8 * b ≤ a + k → a + k ≤ 8 * b + 8 → LiesIn t b (get_or l k (point nan nan))

-- where ring k starts, and its corners
abbrev pub start_of : List ℕ → ℕ → ℕ
start_of ends k = get_or (0 ∷ ends) k 0

abbrev pub ring_at : List P → List ℕ → ℕ → List P
ring_at l ends k = take (get_or ends k 0 - start_of ends k) (drop (start_of ends k) l)

-- after them come those of the rings
abbrev pub RingHeights : List P → List ℕ → List Float → Type 0
RingHeights l ends t = (k : ℕ) → k < length ends → Block (128 + k) (ring_at l ends k) t

-- an outline in the flat form, with its heights
pub record Measured (corners : List Float) (ends : List ℕ) (t : List Float) : Type 0 where
  pub layout : Layout corners ends
  pub heights : Heights 0 (points corners) t
  pub rings : RingHeights (points corners) ends t
