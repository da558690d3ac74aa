-- `first` meets its contract: the cells from i up to j are all inside, or all not. Assumes nothing.
use native.Mathlib.Omega.{arith}
use mathlib.Core.Path.{sym, ◌∙◌}
use Rattle.geom.specs.Rings.{rings_of}
use Rattle.patterns_rules.specs.Patterns.{cell_inside}
use Rattle.cross.specs.ScanLaws.{all_so, same, other}
use Rattle.cross.proofs.cells.Row.first.Goals as goal

pub loop-j-init : goal.loop-j-init
loop-j-init c = λ t a b. absurd (omega arith)

pub returns-then-has-inside : goal.returns-then-has-inside
returns-then-has-inside c = let l = c.loop-j in record { low = l.auto.j; high = omega arith; before = l.invariant; found = λ h. sym c.has.ensures ∙ same c.has.result c.args.inside c.if-has-inside.true }

pub loop-j-preserved : goal.loop-j-preserved
loop-j-preserved c =
    let s = c.args.self in let l = c.loop-j in
    all_so (cell_inside (rings_of s.badge.outline) s.badge.rule s.badge.grid s.y) c.args.i l.j l.invariant (sym c.has.ensures ∙ other c.has.result c.args.inside c.if-has-inside.false)

pub returns : goal.returns
returns c = let l = c.loop-j in record { low = c.requires; high = omega arith; before = λ t a b. l.invariant t a (omega arith); found = λ h. absurd (omega arith) }
