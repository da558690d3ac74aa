use mathlib.Core.Path.{sym, ◌∙◌}
use native.Mathlib.Omega.{arith}
use Rattle.sections.specs.RiseLaws.{only_none, only_right, only_two, only_last, only_one}
use Rattle.sections.proofs.rise.only_open.Goals as goal

pub first_past-t-requires : goal.first_past-t-requires
first_past-t-requires c = let l = c.args.l in (l.before, l.opens, omega (arith, l.row, l.all, l.floats))

pub returns-then-t-r0 : goal.returns-then-t-r0
returns-then-t-r0 c = let a = c.args in let k = c.first_past-t.ensures in (only_none a.l.pieces.now a.l.s.b0 a.l.s.r0 a.l.before a.p _ k.low k.high k.before c.if-t-r0.true, tt)

pub returns-then-not-overlap : goal.returns-then-not-overlap
returns-then-not-overlap c = let a = c.args in let k = c.first_past-t.ensures in (only_right a.l.pieces.now a.l.s.b0 a.l.s.r0 a.l.before a.p _ k.low k.high k.before c.if-t-r0.false (k.after _ (omega arith) c.if-t-r0.false) (sym (rw c.piece_at.ensures at c.overlap.ensures) ∙ c.if-not-overlap.true), tt)

pub returns-then-t-r0-2 : goal.returns-then-t-r0-2
returns-then-t-r0-2 c = let a = c.args in let k = c.first_past-t.ensures in (only_last a.l.pieces.now a.l.s.b0 a.l.s.r0 a.l.before a.p _ k.low k.high k.before c.if-t-r0.false (k.after _ (omega arith) c.if-t-r0.false) (sym (rw c.piece_at.ensures at c.overlap.ensures) ∙ c.if-not-overlap.false) c.if-t-r0-2.true, (k.low, c.if-t-r0.false))

pub returns-then-overlap : goal.returns-then-overlap
returns-then-overlap c = let a = c.args in let k = c.first_past-t.ensures in (only_two a.l.pieces.now a.l.s.b0 a.l.s.r0 a.l.before a.p _ k.low k.high k.before c.if-t-r0.false (k.after _ (omega arith) c.if-t-r0.false) (sym (rw c.piece_at.ensures at c.overlap.ensures) ∙ c.if-not-overlap.false) c.if-t-r0-2.false (sym (rw c.piece_at-2.ensures at c.overlap-2.ensures) ∙ c.if-overlap.true), tt)

pub returns : goal.returns
returns c = let a = c.args in let k = c.first_past-t.ensures in (only_one a.l.pieces.now a.l.s.b0 a.l.s.r0 a.l.before a.p _ k.low k.high k.before c.if-t-r0.false (k.after _ (omega arith) c.if-t-r0.false) (sym (rw c.piece_at.ensures at c.overlap.ensures) ∙ c.if-not-overlap.false) c.if-t-r0-2.false (sym (rw c.piece_at-2.ensures at c.overlap-2.ensures) ∙ c.if-overlap.false), (k.low, c.if-t-r0.false))
