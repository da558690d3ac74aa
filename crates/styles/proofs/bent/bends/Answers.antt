-- `bends` meets its contract: the square tells, or the root. Assumes nothing.
use mathlib.Core.Path.{◌≡◌}
use mathlib.Core.Bool.{true}
use lib.Ieee.{le, lt, of_bits, round}
use Rattle.numbers.specs.Num.{literal}
use Rattle.styles.specs.SquareLaws.{past, bends_square, straight, bent}
use Rattle.styles.proofs.bent.bends.Goals as goal

pub returns-then-d : goal.returns-then-d
unfolding literal round of_bits
returns-then-d c =
    let a = c.args in
    let low : lt c.dot-d.result (literal 36 1) ≡ true = c.if-d.true in
    straight a.p a.q _ _ c.minus-v.ensures c.dot-d.ensures low

pub returns-then-d-2 : goal.returns-then-d-2
unfolding literal round of_bits
returns-then-d-2 c =
    let a = c.args in
    let high : le past c.dot-d.result ≡ true = c.if-d-2.true in
    bent a.p a.q _ _ c.minus-v.ensures c.dot-d.ensures high

pub returns : goal.returns
unfolding literal round of_bits
returns c =
    let a = c.args in
    rw c.root.ensures (bends_square a.p a.q _ _ c.minus-v.ensures c.dot-d.ensures)
