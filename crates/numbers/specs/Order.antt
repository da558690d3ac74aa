-- The order of the values with -0 before +0: IEEE 754's totalOrder, on all values but NaN. Definitions only.
use Rattle.std.specs.Prelude.{ℕ, ◌*◌, Bool, true, false, not, ◌&&◌, cond, ltb, Float}
use Rattle.std.specs.Float.{nan, inf, fin}
use Rattle.std.specs.Float.Ieee.{up, down, is_nan}

-- whether the sign is set
unfoldable pub negative : Float → Bool
negative nan = false
negative (inf s) = s
negative (fin s m e) = s

unfoldable pub finite : Float → Bool
finite nan = false
finite (inf s) = false
finite (fin s m e) = true

-- ±a before ±b, of magnitudes in one unit
abbrev pub ordered : Bool → ℕ → Bool → ℕ → Bool
ordered false a false b = ltb a b
ordered false a true b = false
ordered true a false b = true
ordered true a true b = ltb b a

-- x comes before y. A NaN is before nothing, and nothing before it
unfoldable pub before : Float → Float → Bool
before nan y = false
before (inf s) nan = false
before (inf s) (inf t) = s && not t
before (inf s) (fin t n d) = s
before (fin s m e) nan = false
before (fin s m e) (inf t) = not t
before (fin s m e) (fin t n d) = ordered s (m * up e * down d) t (n * up d * down e)

-- the first and the last of two; where one is a NaN, the other
unfoldable pub smaller : Float → Float → Float
unfolding before is_nan
smaller x y = cond (is_nan x) y (cond (before y x) y x)

unfoldable pub larger : Float → Float → Float
unfolding before is_nan
larger x y = cond (is_nan x) y (cond (before x y) y x)

-- the absolute value
unfoldable pub magnitude : Float → Float
magnitude nan = nan
magnitude (inf s) = inf false
magnitude (fin s m e) = fin false m e
