-- A section's points, counted. Assumes nothing.
use mathlib.Core.Path.{◌≡◌, refl, sym, ap, ◌∙◌}
use Prim.Native.Nat.{◌+◌, ◌*◌}
use native.Mathlib.Omega.{arith}
use lib.ListN.{length, get_or}
use Rattle.std.specs.Prelude.{ℕ, Some}
use Rattle.sewing.specs.Within.{within_in, within_over}
use Rattle.rules.specs.Fill.{sewn, section}
use Rattle.sewing.specs.Sewing.{entry_at, start_of, entries_in}
use Rattle.sewing.specs.LinkedLaws.{linked_less}
use Rattle.sewing.proofs.Walks.{rest_none, start_on, start_sewn, step_low, step_high, step_on, count_on, count_past}
use Rattle.sewing.proofs.section.count_section.Goals as goal

pub returns-then-j-n : goal.returns-then-j-n
returns-then-j-n c =
    let a = c.args in
    let f = a.l.thread.now.field in
    let fl = a.l.floats.now in
    let wh = a.l.wholes.now in
    let k0 = linked_less f a.l.sections (a.s + 1) fl wh (omega arith) a.l.linked in
    let j = get_or wh (4 * f.pieces + a.s) 0 in
    let pen = start_of (entry_at f fl wh j) in
    let e = ap length (sym (start_sewn f fl wh a.s k0 pen (λ h. refl)) ∙ rest_none f fl wh a.s pen j c.if-j-n.true) in
    let x = a.c0 + length (sewn f.g f.stagger (section (entries_in f fl wh) a.s)) in
    let q : a.c0 ≡ x = omega (arith, e) in
    ap (λ (v : ℕ). Some v) q ∙ within_in a.cap x (omega (arith, q, c.requires.1))

pub loop-j-init : goal.loop-j-init
loop-j-init c =
    let a = c.args in
    let f = a.l.thread.now.field in
    let fl = a.l.floats.now in
    let wh = a.l.wholes.now in
    let k0 = linked_less f a.l.sections (a.s + 1) fl wh (omega arith) a.l.linked in
    let o = start_on f fl wh a.s k0 in
    (c.requires.1, o.0, refl, o.1, ap (λ l. a.c0 + length l) (start_sewn f fl wh a.s k0 c.start-pen.result (λ h. c.start-pen.ensures)))

pub count_row-requires : goal.count_row-requires
count_row-requires c = (c.loop-j.invariant.0, c.requires.2)

pub returns-in_err-c : goal.returns-in_err-c
returns-in_err-c c =
    let a = c.args in
    let f = a.l.thread.now.field in
    let fl = a.l.floats.now in
    let wh = a.l.wholes.now in
    let k0 = linked_less f a.l.sections (a.s + 1) fl wh (omega arith) a.l.linked in
    let l = c.loop-j in
    rw c.from_residual.ensures (within_over a.cap (a.c0 + length (sewn f.g f.stagger (section (entries_in f fl wh) a.s)))
    (omega (arith, l.invariant.4, count_past f fl wh a.s k0 l.j c.loop-j-test.true (l.invariant.3 c.loop-j-test.true) l.pen c.row-w.result.row c.row-w.ensures l.c a.cap c.requires.2 c.count_row.ensures c.in_err-c.was)))

pub loop-j-smaller : goal.loop-j-smaller
loop-j-smaller c =
    let a = c.args in
    let f = a.l.thread.now.field in
    let fl = a.l.floats.now in
    let wh = a.l.wholes.now in
    let k0 = linked_less f a.l.sections (a.s + 1) fl wh (omega arith) a.l.linked in
    let l = c.loop-j in
    omega (arith, step_low f fl wh a.s k0 l.j c.loop-j-test.true (l.invariant.3 c.loop-j-test.true), step_high f fl wh a.s k0 l.j c.loop-j-test.true (l.invariant.3 c.loop-j-test.true))

pub loop-j-preserved : goal.loop-j-preserved
loop-j-preserved c =
    let a = c.args in
    let f = a.l.thread.now.field in
    let fl = a.l.floats.now in
    let wh = a.l.wholes.now in
    let k0 = linked_less f a.l.sections (a.s + 1) fl wh (omega arith) a.l.linked in
    let l = c.loop-j in
    let h = c.loop-j-test.true in
    let q = l.invariant.3 h in
    let n = count_on f fl wh a.s k0 l.j h q l.pen c.row-w.result.row c.row-w.ensures l.c a.cap c.requires.2 c.count_row.ensures _ c.in_ok-c.was in (
      n.1,
      step_high f fl wh a.s k0 l.j h q,
      refl,
      step_on f fl wh a.s k0 l.j h q,
      n.0 ∙ l.invariant.4,
    )

pub returns : goal.returns
returns c =
    let a = c.args in
    let f = a.l.thread.now.field in
    let fl = a.l.floats.now in
    let wh = a.l.wholes.now in
    let k0 = linked_less f a.l.sections (a.s + 1) fl wh (omega arith) a.l.linked in
    let l = c.loop-j in
    let e = ap length (rest_none f fl wh a.s l.pen l.j c.loop-j-test.false) in
    let x = a.c0 + length (sewn f.g f.stagger (section (entries_in f fl wh) a.s)) in
    let q : l.c ≡ x = omega (arith, l.invariant.4, e) in
    ap (λ (v : ℕ). Some v) q ∙ within_in a.cap x (omega (arith, q, l.invariant.0))
