use Rattle.geom.specs.Rings.{rings_of}
use Rattle.patterns_rules.specs.Patterns.{cell_inside}
use Rattle.cross.specs.ScanLaws.{scan_none, scan_next}
use native.Mathlib.Omega.{arith}
use Rattle.cross.proofs.cells.Row.next_run.Goals as goal

pub returns-then-first-self : goal.returns-then-first-self
returns-then-first-self c = let s = c.args.self in scan_none (cell_inside (rings_of s.badge.outline) s.badge.rule s.badge.grid s.y) s.badge.grid.columns c.first-first.ensures (omega arith)

pub returns : goal.returns
returns c = let s = c.args.self in scan_next (cell_inside (rings_of s.badge.outline) s.badge.rule s.badge.grid s.y) s.badge.grid.columns c.first-first.ensures (omega (arith, c.first-first.ensures.high)) c.first-end.ensures
