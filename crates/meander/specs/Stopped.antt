-- What the code of the call goes by: the grid with its counts stopped past 400,000, and what is said and left on it. Definitions only.
use Rattle.std.specs.Prelude.{ℕ, cond, List, [], leb, ltb, Float}
use Rattle.refusal.specs.Refusal.{WORK, unless, ◌then◌}
use Rattle.seqs.specs.Slices.{capped}
use Rattle.geom.specs.declared.point.P.{P}
use Rattle.outlines.specs.declared.rule.FillRule.{FillRule}
use Rattle.patterns_rules.specs.Answers.{room_for}
use Rattle.meander_rules.specs.declared.Lattice.{Lattice}
use Rattle.meander_rules.specs.Meander.{most_points, points_of, meander_on}
use Rattle.meander_rules.specs.Answers.{need_of}

abbrev pub stopped : Lattice → Lattice
stopped g = record { left = g.left; top = g.top; spacing = g.spacing; columns = capped most_points g.columns; rows = capped most_points g.rows }

-- the lines on a grid; none where it is too large
abbrev pub lines_on : List (List P) → FillRule → Lattice → Float → ℕ → List (List P)
lines_on rings rule g len seed = cond (ltb most_points (points_of g)) [] (meander_on rings rule g len seed)

-- WORK, or ROOM, or DONE
abbrev pub answer_on : List (List P) → FillRule → Lattice → Float → ℕ → ℕ → ℕ → ℕ → ℕ
answer_on rings rule g len seed room lineRoom wholes = unless WORK (leb (need_of g) wholes) then room_for (lines_on rings rule g len seed) room lineRoom
