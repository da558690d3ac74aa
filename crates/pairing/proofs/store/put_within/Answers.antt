-- `put_within` meets its contract: the two tests say whether there is room. Assumes nothing.
use Rattle.pairing.proofs.store.put_within.Goals.{else-to-w-via-then-to-w+else-w-to-ge4, else-to-w-via-else-to-w}
use mathlib.Core.Path.{sym, ◌∙◌}
use native.Mathlib.Omega.{arith}
use Rattle.pairing.specs.StoreLaws.{two_size, within_put, within_none}
use Rattle.pairing.proofs.store.put_within.Goals as goal

pub returns-then-w-to-ge4 : goal.returns-then-w-to-ge4
returns-then-w-to-ge4 c =
    let a = c.args in
    c.put_pair.ensures ∙ sym (within_put a.w.now a.to a.q (omega (arith, c.if-w-to-ge4.true, c.if-to-w.true)))

pub returns-else-to-w : goal.returns-else-to-w
returns-else-to-w c =
    let a = c.args in
    elim c.else-to-w.branch [
      | else-to-w-via-then-to-w+else-w-to-ge4 w ↦ sym (within_none a.w.now a.to a.q (omega (arith, w.if-to-w.true, w.if-w-to-ge4.false)))
      | else-to-w-via-else-to-w w ↦ sym (within_none a.w.now a.to a.q (omega (arith, w.if-to-w.false)))
    ]
