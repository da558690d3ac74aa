-- No stitch longer than asked (request [12]): points as the whole-number fractions they are, and how far apart two of them lie, in squares. Definitions only.
use Rattle.std.specs.Prelude.{ℕ, ◌+◌, ◌*◌, ◌^◌, Bool, true, ◌&&◌, List, [], ◌∷◌, map, leb, nat_abs, ◌-ℤ◌, Float}
use Rattle.numbers.specs.Order.{finite}
use Rattle.numbers.specs.Value.{units_of, value_of}
use Rattle.seqs.specs.Lists.{each}
use Rattle.geom.specs.declared.point.P.{P}
use Rattle.outlines.specs.declared.rule.FillRule.{FillRule}
use Rattle.rules.specs.declared.Settings.{Settings}
use Rattle.rules.specs.declared.Entry.{Entry}
use Rattle.rules.specs.Fill.{row_list, sections, row_points, sew}

-- how far x lies from y, in units of 2 ^ -1074: a finite f64 is a whole number of them, so this is exact
unfoldable pub gap : Float → Float → ℕ
gap x y = nat_abs (value_of x -ℤ value_of y)

abbrev pub square : ℕ → ℕ
square n = n * n

-- p and q are finite, and lie no farther apart than len + 0.001: dx² + dy² ≤ (len + 0.001)², in units, of which 2 ^ 1074 are one; all a thousand times, so that 0.001 is whole too
unfoldable pub no_farther : Float → P → P → Bool
no_farther len p q =
    finite p.x && finite p.y && finite q.x && finite q.y
    && leb (square (1000 * gap p.x q.x) + square (1000 * gap p.y q.y)) (square (1000 * units_of len + 2 ^ 1074))

-- the test holds of every two neighbours of a list
unfoldable pub neighbours : (P → P → Bool) → List P → Bool
neighbours test [] = true
neighbours test (p ∷ []) = true
neighbours test (p ∷ q ∷ ps) = test p q && neighbours test (q ∷ ps)

-- a section's points before they are turned back: `sewn` turns these
unfoldable pub unturned : Settings → ℕ → List Entry → List P
unturned g stagger es = sew g (each (row_points g stagger) es)

-- those of each section of the fill: `tatami` turns these
unfoldable pub all_unturned : List (List P) → FillRule → Settings → ℕ → Bool → List (List P)
all_unturned rings rule g stagger bottomUp = map (unturned g stagger) (sections (row_list rings rule g bottomUp))
