-- The invariant: what is left to write stands before place at + i, and behind it what is written.
use mathlib.Core.Path.{◌≡◌}
use native.Mathlib.Omega.{arith}
use Rattle.book.proofs.Numbers.{back_start, back_turn, back_end}
use Rattle.book.proofs.writing.put_number.Goals as goal

pub loop-i-init : goal.loop-i-init
loop-i-init c = back_start _ _ _ _

pub loop-i-preserved : goal.loop-i-preserved
loop-i-preserved c =
    let l = c.loop-i in
    back_turn l.rest l.i (omega arith) (omega arith) l.invariant

pub returns : goal.returns
returns c =
    let l = c.loop-i in
    let e : l.i ≡ 0 = omega arith in
    back_end l.rest (omega arith) (rw e at l.invariant)
