use native.Mathlib.Omega.{arith}
use lib.IntN.{pos, ◌+ℤ◌, ◌-ℤ◌}
use mir.Syntax.{w64}
use mir.ValLaws.{to_z-of_z}
use Rattle.seqs.specs.Signed.{cast}
use Rattle.edges.specs.SpanLaws.{up_fits, down_fits}
use borrow.Author.Rules.{rules}
use Rattle.edges.proofs.rows.row_number.Goals as goal

pub overflow_sub-result : goal.overflow_sub-result
overflow_sub-result c =
    let w = c.args.w in
    let s = c.requires.0 in
    rw (to_z-of_z w64 w.hi s.high, cast c.args.r 4096 (omega (arith, s.few, c.requires.1)) (search rules)) (down_fits w.lo w.hi c.args.r (omega (arith, s.all, c.requires.1)) s.low s.high)

pub returns-then-upward : goal.returns-then-upward
returns-then-upward c =
    let w = c.args.w in
    let s = c.requires.0 in
    rw (c.if-upward.true, to_z-of_z w64 w.hi s.high, cast c.args.r 4096 (omega (arith, s.few, c.requires.1)) (search rules), to_z-of_z w64 (w.hi -ℤ pos c.args.r) (down_fits w.lo w.hi c.args.r (omega (arith, s.all, c.requires.1)) s.low s.high))

pub overflow_add-result : goal.overflow_add-result
overflow_add-result c =
    let w = c.args.w in
    let s = c.requires.0 in
    rw (to_z-of_z w64 w.lo s.low, cast c.args.r 4096 (omega (arith, s.few, c.requires.1)) (search rules)) (up_fits w.lo w.hi c.args.r (omega (arith, s.all, c.requires.1)) s.low s.high)

pub returns : goal.returns
returns c =
    let w = c.args.w in
    let s = c.requires.0 in
    rw (c.if-upward.false, to_z-of_z w64 w.lo s.low, cast c.args.r 4096 (omega (arith, s.few, c.requires.1)) (search rules), to_z-of_z w64 (w.lo +ℤ pos c.args.r) (up_fits w.lo w.hi c.args.r (omega (arith, s.all, c.requires.1)) s.low s.high))
