-- `side_from` meets its contract: what was passed does not lie beyond s. Assumes nothing.
use mathlib.Core.Path.{◌≡◌, refl}
use Prim.Native.Nat.{◌≤◌}
use native.Mathlib.Omega.{arith}
use lib.ListN.{length, drop}
use Rattle.arc.specs.Rail.{not_beyond}
use Rattle.arc.specs.RailLaws.{beyond_here, beyond_next, beyond_end}
use Rattle.arc.proofs.side_from.Goals as goal

pub loop-i-init : goal.loop-i-init
loop-i-init c = refl

pub returns-then-s-cum : goal.returns-then-s-cum
returns-then-s-cum c =
    let a = c.args in
    let l = c.loop-i in
    let z = beyond_here a.s a.cum.now l.i c.loop-i-test.true c.if-s-cum.true in
    omega (arith, l.invariant, z)

pub loop-i-preserved : goal.loop-i-preserved
loop-i-preserved c =
    let a = c.args in
    let l = c.loop-i in
    let z = beyond_next a.s a.cum.now l.i c.loop-i-test.true c.if-s-cum.false in
    omega (arith, l.invariant, z)

pub returns : goal.returns
returns c =
    let a = c.args in
    let z = beyond_end a.s a.cum.now c.loop-i.i c.loop-i-test.false in
    let w : length a.cum.now ≤ a.k → not_beyond a.s (drop a.k a.cum.now) ≡ 0 = beyond_end a.s a.cum.now a.k in
    grind (arith, c.loop-i.invariant, z, w)
