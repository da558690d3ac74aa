-- Document 01's limits, and the tests that hold input to them. Definitions only.
use Rattle.std.specs.Prelude.{ℕ, ◌/◌, ◌%◌, Bool, true, ◌&&◌, List, [], ◌∷◌, leb, eqb, length, pos, negsuc, Float}
use Rattle.std.specs.Float.Ieee.{le}
use Rattle.numbers.specs.Num.{◌⊕◌, ◌⊗◌, real, literal, half}
use Rattle.numbers.specs.Order.{finite, magnitude}
use Rattle.geom.specs.declared.point.P.{P}
use Rattle.geom.specs.Outline.{rising}

-- LAYOUT: of an outline; of an outline in all; of one rail or line; of a column
abbrev pub most_rings : ℕ
most_rings = 255

abbrev pub most_corners : ℕ
most_corners = 1024

abbrev pub most_on_line : ℕ
most_on_line = 1024

abbrev pub most_syncs : ℕ
most_syncs = 256

-- SIZE: of a fill; of cross stitch, either way; of a pass
abbrev pub most_rows : ℕ
most_rows = 4096

abbrev pub most_cells : ℕ
most_cells = 4096

abbrev pub most_pairs : ℕ
most_pairs = 65536

-- the size of a coordinate
unfoldable pub largest : Float
largest = real (pos 100000)

-- ends included; a NaN is outside
unfoldable pub within : Float → Float → Float → Bool
within lo hi x = le lo x && le x hi

-- ---- NUMBER: a coordinate, sync value or lerp fraction is finite, and at most 100,000 in size

unfoldable pub good_number : Float → Bool
good_number x = finite x && le (magnitude x) largest

unfoldable pub good_point : P → Bool
good_point p = good_number p.x && good_number p.y

unfoldable pub good_numbers : List Float → Bool
good_numbers [] = true
good_numbers (x ∷ l) = good_number x && good_numbers l

-- ---- SETTING

unfoldable pub good_spacing : Float → Bool
good_spacing x = within half (real (pos 1000)) x

-- len and run_len
unfoldable pub good_len : Float → Bool
good_len x = within (real (pos 1)) (real (pos 1000)) x

-- the step of segment_inside and pairs
unfoldable pub good_step : Float → Bool
good_step x = within half (real (pos 1000)) x

-- inset and pull
unfoldable pub good_inset : Float → Bool
good_inset x = within (real (negsuc 99)) (real (pos 100)) x

abbrev pub good_stagger : ℕ → Bool
good_stagger n = leb n 1000

unfoldable pub good_cell : Float → Bool
good_cell x = within (real (pos 1)) (real (pos 1000)) x

abbrev pub good_passes : ℕ → Bool
good_passes n = leb n 64

abbrev pub good_underlay : ℕ → Bool
good_underlay n = leb n 7

-- a split's length
unfoldable pub good_split : Float → Bool
good_split x = within half (real (pos 1000)) x

-- ---- TURN: cosine and sine are finite, and c·c + s·s, worked in f64, is from 0.999999 to 1.000001

unfoldable pub good_turn : Float → Float → Bool
good_turn c s = finite c && finite s && within (literal 999999 1000000) (literal 1000001 1000000) (c ⊗ c ⊕ s ⊗ s)

-- ---- LAYOUT

unfoldable pub good_outline : List Float → List ℕ → Bool
good_outline corners ends =
    eqb (length corners % 2) 0 && leb (length ends) most_rings && leb (length corners / 2) most_corners && rising 0 ends (length corners / 2)

-- of a rail or line
unfoldable pub good_line : List Float → Bool
good_line l = eqb (length l % 2) 0 && leb (length l / 2) most_on_line
