use mathlib.Core.Path.{◌≡◌}
use mathlib.Core.List.{List}
use Prim.Native.Nat.{ℕ, ◌+◌, ◌-◌, ◌*◌, ◌≤◌}
use lib.Ieee.{Float}
use Rattle.seqs.specs.Wrote.{Run}
use Rattle.geom.specs.declared.point.P.{P}
use Rattle.outlines.specs.declared.rule.FillRule.{FillRule}
use Rattle.geom.specs.Rings.{rings_of}
use Rattle.rules.specs.declared.Settings.{Settings}
use Rattle.sections.specs.Mark.{row_marks, row_new}
use Rattle.sections.specs.declared.Row.{Row}
use Rattle.sections.proofs.mark_row.Given as goal

pub record Inv (rs : List (List P)) (rule : FillRule) (g : Settings) (l : List Float) (s : Row) (new : ℕ) (w v : List ℕ) (j section : ℕ) : Type 0 where
  pub from : s.r0 ≤ j
  pub to : j ≤ s.r1
  pub most : section ≤ j
  pub run : Run w v (s.n + 2 * s.r0) (s.n + 2 * j) (row_marks rs rule g l w s section j (s.r1 - j)) (row_marks rs rule g l w s new s.r0 (s.r1 - s.r0))
  pub news : row_new rs rule g l w s section j (s.r1 - j) ≡ row_new rs rule g l w s new s.r0 (s.r1 - s.r0)

abbrev pub invariant-loop-j : goal.invariant-loop-j
invariant-loop-j l = Inv (rings_of l.area.outline) l.area.rule l.g l.l.pieces.now l.l.s l.new l.initial.wholes l.wholes l.j l.section
