-- `crowded` meets its contract: the root is below 2.5 only where the square is below 6.25. Assumes nothing.
use lib.Ieee.{binary64, of_bits, round}
use mathlib.Core.Path.{sym}
use Rattle.numbers.specs.Num.{◌⊕◌, ◌⊖◌, ◌⊗◌, literal}
use Rattle.numbers.specs.Laws.{add-fits}
use Rattle.geom.specs.Point.{len, dist}
use Rattle.satinrules.specs.Settings.{short_dist}
use Rattle.satinrules.specs.Column.{crowded}
use Rattle.passes.specs.TopLaws.{not_crowded}
use Rattle.passes.proofs.top.crowded.Goals as goal

pub returns-then-d : goal.returns-then-d
unfolding crowded dist len literal of_bits round
returns-then-d c =
    let x = c.args.p.x ⊖ c.args.o.x in
    let y = c.args.p.y ⊖ c.args.o.y in
    sym (not_crowded (x ⊗ x ⊕ y ⊗ y) (add-fits binary64 (x ⊗ x) (y ⊗ y)) (rw c.minus-d.ensures at c.if-d.true))

pub returns : goal.returns
unfolding crowded dist literal of_bits round short_dist
returns c = rw (c.len.ensures, c.minus-d.ensures)
