-- Which winding numbers, points and segments are inside, as geom.rs decides it. Definitions only.
use Rattle.std.specs.Prelude.{ℕ, zero, suc, ◌+◌, ◌-◌, ◌%◌, Bool, true, not, ◌&&◌, List, eqb, ℤ, nat_abs, Float}
use Rattle.geom.specs.declared.point.P.{P}
use Rattle.outlines.specs.declared.rule.FillRule.{FillRule}
use Rattle.outlines.specs.declared.rule.FillRule.TheVariants.{NonZero, EvenOdd}
use Rattle.geom.specs.Point.{dist}
use Rattle.geom.specs.Steps.{steps, along}
use Rattle.outlines.specs.Winding.{winding}

-- not 0; odd, below zero too
unfoldable pub inside : FillRule → ℤ → Bool
inside NonZero w = not (eqb (nat_abs w) 0)
inside EvenOdd w = eqb (nat_abs w % 2) 1

unfoldable pub point_inside : List (List P) → FillRule → P → Bool
point_inside rs rule p = inside rule (winding rs p)

-- the ends of the steps i, i + 1, .. of n from a to b, `left` of them, are inside
unfoldable pub steps_inside : List (List P) → FillRule → P → P → ℕ → ℕ → ℕ → Bool
steps_inside rs rule a b n i zero = true
steps_inside rs rule a b n i (suc left) = point_inside rs rule (along a b n i) && steps_inside rs rule a b n (i + 1) left

-- all but the last step's end, one each `step`
unfoldable pub segment_inside : List (List P) → FillRule → P → P → Float → Bool
segment_inside rs rule a b step =
    let n = steps (dist a b) step in
    steps_inside rs rule a b n 1 (n - 1)
