-- The invariant: what is left to write stands before place at + i, and behind it what is written.
use mathlib.Core.Path.{◌≡◌}
use Prim.Native.Nat.{◌%◌, ◌<◌}
use native.Mathlib.Nat.{mod-lt}
use native.Mathlib.Omega.{arith}
use Rattle.jobs.proofs.Words.{back_start, back_turn, back_end, digits_length}
use Rattle.jobs.proofs.line.put_digits.Goals as goal

pub loop-i-init : goal.loop-i-init
loop-i-init c = back_start _ _ _ _ (digits_length _ _ _)

pub glyph-requires : goal.glyph-requires
glyph-requires c = let h : c.loop-i.rest % c.args.base < c.args.base = mod-lt _ (omega arith) in omega arith

pub bounds-out-at : goal.bounds-out-at
bounds-out-at c = omega (arith, c.loop-i.invariant.size)

pub loop-i-preserved : goal.loop-i-preserved
loop-i-preserved c =
    let l = c.loop-i in
    rw c.glyph.ensures (back_turn c.args.base l.rest l.i (omega arith) (omega arith) l.invariant)

pub shape_of-out : goal.shape_of-out
shape_of-out c = c.loop-i.invariant.size

pub returns : goal.returns
returns c =
    let l = c.loop-i in
    let e : l.i ≡ 0 = omega arith in
    back_end c.args.base l.rest (omega arith) (rw e at l.invariant)
