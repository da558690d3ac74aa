use Prim.Native.Nat.{◌^◌, ◌-◌}
use native.Mathlib.Omega.{arith}
use lib.IntN.{◌-ℤ◌}
use mir.Syntax.{w64}
use mir.ValLaws.{to_z-of_z}
use Rattle.seqs.specs.Signed.{small, back}
use Rattle.seqs.specs.Ints.{not_negative, gap_not_negative}
use Rattle.cross.specs.GridLaws.{in_order, many_few, many_over}
use borrow.Author.Rules.{rules}
use Rattle.cross.proofs.grid.from_to.Goals as goal

pub overflow_sub-d : goal.overflow_sub-d
overflow_sub-d c = let a = c.args in rw (to_z-of_z w64 a.hi c.ranges.hi, to_z-of_z w64 a.lo c.ranges.lo) (small (a.hi -ℤ a.lo) (2 ^ 63 - 1) (omega (arith, c.requires)) (search rules))

pub overflow_cast-d : goal.overflow_cast-d
overflow_cast-d c = let a = c.args in
    rw (to_z-of_z w64 a.hi c.ranges.hi, to_z-of_z w64 a.lo c.ranges.lo, back (a.hi -ℤ a.lo) (2 ^ 63 - 1) (omega (arith, c.requires)) (search rules))
    (not_negative (a.hi -ℤ a.lo) (gap_not_negative a.lo a.hi (in_order a.lo a.hi c.requires.0)), record { fits = omega (arith, c.requires) })

pub returns-then-d-le4096 : goal.returns-then-d-le4096
returns-then-d-le4096 c = let a = c.args in
    let t = rw (to_z-of_z w64 a.hi c.ranges.hi, to_z-of_z w64 a.lo c.ranges.lo, back (a.hi -ℤ a.lo) (2 ^ 63 - 1) (omega (arith, c.requires)) (search rules)) at c.if-d-le4096.true in
    rw (to_z-of_z w64 a.hi c.ranges.hi, to_z-of_z w64 a.lo c.ranges.lo, back (a.hi -ℤ a.lo) (2 ^ 63 - 1) (omega (arith, c.requires)) (search rules)) (many_few a.lo a.hi c.requires.0 t)

pub returns : goal.returns
returns c = let a = c.args in
    let t = rw (to_z-of_z w64 a.hi c.ranges.hi, to_z-of_z w64 a.lo c.ranges.lo, back (a.hi -ℤ a.lo) (2 ^ 63 - 1) (omega (arith, c.requires)) (search rules)) at c.if-d-le4096.false in
    many_over a.lo a.hi c.requires.0 t
