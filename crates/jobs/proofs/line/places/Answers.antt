-- The invariant: the digits that are left, and those counted, are all.
use mathlib.Core.Path.{◌≡◌, sym}
use Prim.Native.Nat.{◌+◌, ◌-◌}
use native.Mathlib.Omega.{arith}
use Rattle.jobs.proofs.Words.{places_one, places_turn, places_last}
use Rattle.jobs.proofs.line.places.Goals as goal

pub returns-then-rest-lt10 : goal.returns-then-rest-lt10
returns-then-rest-lt10 c = (omega (arith, c.loop-k.invariant, places_one (20 - c.loop-k.k) c.loop-k.rest c.if-rest-lt10.true), omega arith)

pub loop-k-preserved : goal.loop-k-preserved
loop-k-preserved c =
    let l = c.loop-k in
    let e : 20 - l.k - 1 ≡ 20 - (l.k + 1) = omega arith in
    omega (arith, l.invariant, rw e at (places_turn (20 - l.k) l.rest (omega arith) c.if-rest-lt10.false))

pub returns : goal.returns
returns c =
    let l = c.loop-k in
    let e : 20 - l.k ≡ 0 = omega arith in
    (omega (arith, l.invariant, rw (sym e) at (places_last l.rest)), omega arith)
