-- `put_side` meets its contract: two bent points and the last, or the last alone. Assumes nothing.
use Prim.Native.Nat.{◌+◌}
use mathlib.Core.Path.{sym, ap, ◌∙◌}
use native.Mathlib.Omega.{arith}
use lib.ListN.{length}
use lib.Ieee.{of_bits, round}
use Rattle.numbers.specs.Num.{literal}
use Rattle.styles.specs.SidesLaws.{bent_side, straight_side}
use Rattle.styles.proofs.Turns.{point_size, three_put}
use Rattle.styles.proofs.bent.put_side.Goals as goal

pub put_point-requires : goal.put_point-requires
put_point-requires c =
    let a = c.args in
    omega (arith, c.requires, ap length (bent_side a.p a.q a.k (sym c.bends.ensures ∙ c.if-bends.true)))

pub overflow_add-to : goal.overflow_add-to
overflow_add-to c =
    let a = c.args in
    omega (arith, c.requires, c.well_formed, ap length (bent_side a.p a.q a.k (sym c.bends.ensures ∙ c.if-bends.true)))

pub put_point-requires-then-bends : goal.put_point-requires-then-bends
put_point-requires-then-bends c =
    let a = c.args in
    let n = ap length (bent_side a.p a.q a.k (sym c.bends.ensures ∙ c.if-bends.true)) in
    omega (arith, c.requires, n, point_size _ _ _ a.to c.put_point.ensures (omega (arith, c.requires, n)))

pub overflow_add-to-then-bends : goal.overflow_add-to-then-bends
overflow_add-to-then-bends c =
    let a = c.args in
    omega (arith, c.requires, c.well_formed, ap length (bent_side a.p a.q a.k (sym c.bends.ensures ∙ c.if-bends.true)))

pub put_point-requires-then-bends-2 : goal.put_point-requires-then-bends-2
put_point-requires-then-bends-2 c =
    let a = c.args in
    let n = ap length (bent_side a.p a.q a.k (sym c.bends.ensures ∙ c.if-bends.true)) in
    let s = point_size _ _ _ a.to c.put_point.ensures (omega (arith, c.requires, n)) in
    omega (arith, c.requires, n, s, point_size _ _ _ (a.to + 2) c.put_point-then-bends.ensures (omega (arith, c.requires, n, s)))

pub overflow_add-result : goal.overflow_add-result
overflow_add-result c =
    let a = c.args in
    omega (arith, c.requires, c.well_formed, ap length (bent_side a.p a.q a.k (sym c.bends.ensures ∙ c.if-bends.true)))

pub shape_of-out-then-bends : goal.shape_of-out-then-bends
shape_of-out-then-bends c =
    let a = c.args in
    let n = ap length (bent_side a.p a.q a.k (sym c.bends.ensures ∙ c.if-bends.true)) in
    let s = point_size _ _ _ a.to c.put_point.ensures (omega (arith, c.requires, n)) in
    let t = point_size _ _ _ (a.to + 2) c.put_point-then-bends.ensures (omega (arith, c.requires, n, s)) in
    omega (arith, s, t, point_size _ _ _ (a.to + 4) c.put_point-then-bends-2.ensures (omega (arith, c.requires, n, s, t)))

pub returns-then-bends : goal.returns-then-bends
unfolding literal round of_bits
returns-then-bends c =
    let a = c.args in
    let side = bent_side a.p a.q a.k (sym c.bends.ensures ∙ c.if-bends.true) in
    let e = rw (c.plus.ensures, c.lerp.ensures, c.bend-b.ensures) at c.put_point.ensures in
    let f = rw (c.minus.ensures, c.lerp-then-bends.ensures, c.bend-b.ensures) at c.put_point-then-bends.ensures in
    (rw side (three_put _ _ _ _ _ _ a.q a.to (omega (arith, c.requires, ap length side)) e f c.put_point-then-bends-2.ensures), omega (arith, ap length side))

pub put_point-requires-2 : goal.put_point-requires-2
put_point-requires-2 c =
    let a = c.args in
    omega (arith, c.requires, ap length (straight_side a.p a.q a.k (sym c.bends.ensures ∙ c.if-bends.false)))

pub overflow_add-result-2 : goal.overflow_add-result-2
overflow_add-result-2 c =
    let a = c.args in
    omega (arith, c.requires, c.well_formed, ap length (straight_side a.p a.q a.k (sym c.bends.ensures ∙ c.if-bends.false)))

pub shape_of-out : goal.shape_of-out
shape_of-out c =
    let a = c.args in
    point_size _ _ _ a.to c.put_point-2.ensures (omega (arith, c.requires, ap length (straight_side a.p a.q a.k (sym c.bends.ensures ∙ c.if-bends.false))))

pub returns : goal.returns
returns c =
    let a = c.args in
    let side = straight_side a.p a.q a.k (sym c.bends.ensures ∙ c.if-bends.false) in
    (rw side c.put_point-2.ensures, omega (arith, ap length side))
