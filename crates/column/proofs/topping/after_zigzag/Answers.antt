use Prim.Native.Nat.{◌/◌, ◌%◌}
use borrow.Author.Tests.{eq-eqb, ne_eqb}
use Rattle.satinrules.specs.Column.{after_zigzag}
use Rattle.satin.specs.UnderlayLaws.{end_is}
use Rattle.column.proofs.topping.after_zigzag.Goals as goal

pub returns-then-g-eq1 : goal.returns-then-g-eq1
unfolding after_zigzag
returns-then-g-eq1 c =
    let g = c.args.g in
    rw (eq-eqb (g.underlay / 4 % 2) 1 c.if-g-eq1.true, end_is g)

pub returns : goal.returns
unfolding after_zigzag
returns c =
    let g = c.args.g in
    rw (ne_eqb (g.underlay / 4 % 2) 1 c.if-g-eq1.false, end_is g)
