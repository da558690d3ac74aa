-- What is sewn of the row list is `tatami`. Assumes nothing.
use Rattle.std.specs.Prelude.{ℕ, ◌≡◌, Bool, List, map, Float}
use Rattle.geom.specs.declared.point.P.{P}
use Rattle.outlines.specs.declared.rule.FillRule.{FillRule}
use Rattle.rules.specs.Fill.{row_list, begun, sections, sewn, tatami}
use Rattle.sewing.specs.declared.Field.{Field}
use Rattle.sewing.specs.Sewing.{entries_in, first_sections}

pub sewn_tatami : (rings : List (List P)) (rule : FillRule) (f : Field) (bottomUp : Bool) (floats : List Float) (wholes : List ℕ) → entries_in f floats wholes ≡ row_list rings rule f.g bottomUp
    → map (sewn f.g f.stagger) (first_sections (entries_in f floats wholes) (begun (row_list rings rule f.g bottomUp))) ≡ tatami rings rule f.g f.stagger bottomUp
unfolding tatami sections
sewn_tatami rings rule f bottomUp floats wholes e = rw e
