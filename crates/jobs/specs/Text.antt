-- What the program `fill` prints, as bytes. Definitions only.
use Rattle.std.specs.Prelude.{ℕ, zero, suc, ◌+◌, ◌-◌, ◌*◌, ◌/◌, ◌%◌, ◌≤◌, cond, List, [], ◌∷◌, ◌++◌, ltb, length, take, get_or, Float}
use Rattle.std.specs.Float.{nan, binary64}
use Rattle.std.specs.Float.Ieee.{to_bits}

abbrev pub space : ℕ
space = 32

abbrev pub newline : ℕ
newline = 10

-- a digit below 16: `0` to `9`, then `a` to `f`
unfoldable pub glyph : ℕ → ℕ
glyph d = cond (ltb d 10) (48 + d) (87 + d)

-- the last k digits of n in base b, the most significant first
unfoldable pub digits : ℕ → ℕ → ℕ → List ℕ
digits b zero n = []
digits b (suc k) n = digits b k (n / b) ++ (glyph (n % b) ∷ [])

-- how many decimal digits n has, and at most k + 1
unfoldable pub places : ℕ → ℕ → ℕ
places zero n = 1
places (suc k) n = cond (ltb n 10) 1 (places k (n / 10) + 1)

-- a 64-bit number has at most 20
unfoldable pub decimal : ℕ → List ℕ
decimal n = digits 10 (places 19 n) n

-- a float's 64 bits as 16 hex digits
unfoldable pub hex : Float → List ℕ
hex x = digits 16 16 (to_bits binary64 x)

-- "answer sections points"
unfoldable pub head_line : ℕ → ℕ → ℕ → List ℕ
head_line answer sections points = decimal answer ++ space ∷ (decimal sections ++ space ∷ (decimal points ++ newline ∷ []))

-- "section x y"
unfoldable pub point_line : ℕ → Float → Float → List ℕ
point_line section x y = decimal section ++ space ∷ (hex x ++ space ∷ (hex y ++ newline ∷ []))

-- ---- all of it

-- a line for each point from point i on, `left` of them, of section s; the points are an x and a y each
unfoldable pub point_lines : List Float → ℕ → ℕ → ℕ → List ℕ
point_lines points s i zero = []
point_lines points s i (suc left) = point_line s (get_or points (2 * i) nan) (get_or points (2 * i + 1) nan) ++ point_lines points s (i + 1) left

-- of section s, which starts at point `from`, and those after it, by where each ends
unfoldable pub section_lines : List Float → ℕ → ℕ → List ℕ → List ℕ
section_lines points s from [] = []
section_lines points s from (to ∷ ends) = point_lines points s from (to - from) ++ section_lines points (s + 1) to ends

unfoldable pub listing : ℕ → ℕ → ℕ → List Float → List ℕ → List ℕ
listing answer sections many points ends = head_line answer sections many ++ section_lines points 0 0 (take sections ends)

-- ends that don't fall, and are places of points
abbrev pub Ends : List Float → ℕ → List ℕ → Type 0
Ends points from [] = Unit {0}
Ends points from (to ∷ ends) = (from ≤ to) × (2 * to ≤ length points) × Ends points to ends
