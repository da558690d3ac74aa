use mathlib.Core.Path.{sym, ap, ◌∙◌}
use Prim.Native.Nat.{◌≤◌}
use native.Mathlib.Omega.{arith}
use lib.ListN.{set}
use Rattle.salvage.specs.Ring.{CLOSING}
use Rattle.salvage.specs.RingLaws.{count}
use Rattle.salvage.proofs.Rings.{closing_none, first_in, last_in, closing_equal, closing_other}
use Rattle.salvage.proofs.ring.mark_closing.Goals as goal

pub returns-then-count_kept-lt2 : goal.returns-then-count_kept-lt2
returns-then-count_kept-lt2 c = closing_none c.args.ring.now c.args.marks.now c.requires (omega (arith, c.count_kept.ensures, c.if-count_kept-lt2.true))

pub overflow_mul-f : goal.overflow_mul-f
overflow_mul-f c =
    let k : 2 ≤ count c.args.marks.now = omega (arith, c.count_kept.ensures, c.if-count_kept-lt2.false) in
    omega (arith, c.first_kept-f.ensures, first_in c.args.ring.now c.args.marks.now c.requires k)

pub corner-requires : goal.corner-requires
corner-requires c =
    let k : 2 ≤ count c.args.marks.now = omega (arith, c.count_kept.ensures, c.if-count_kept-lt2.false) in
    omega (arith, c.first_kept-f.ensures, first_in c.args.ring.now c.args.marks.now c.requires k)

pub overflow_mul-l : goal.overflow_mul-l
overflow_mul-l c =
    let k : 2 ≤ count c.args.marks.now = omega (arith, c.count_kept.ensures, c.if-count_kept-lt2.false) in
    omega (arith, c.last_kept-l.ensures, last_in c.args.ring.now c.args.marks.now c.requires k)

pub corner-requires-2 : goal.corner-requires-2
corner-requires-2 c =
    let k : 2 ≤ count c.args.marks.now = omega (arith, c.count_kept.ensures, c.if-count_kept-lt2.false) in
    omega (arith, c.last_kept-l.ensures, last_in c.args.ring.now c.args.marks.now c.requires k)

pub offset_bounds-marks-l : goal.offset_bounds-marks-l
offset_bounds-marks-l c =
    let k : 2 ≤ count c.args.marks.now = omega (arith, c.count_kept.ensures, c.if-count_kept-lt2.false) in
    omega (arith, c.last_kept-l.ensures, last_in c.args.ring.now c.args.marks.now c.requires k, c.requires)

pub bounds-marks-l : goal.bounds-marks-l
bounds-marks-l c =
    let k : 2 ≤ count c.args.marks.now = omega (arith, c.count_kept.ensures, c.if-count_kept-lt2.false) in
    omega (arith, c.last_kept-l.ensures, last_in c.args.ring.now c.args.marks.now c.requires k, c.requires)

pub returns-then-same : goal.returns-then-same
returns-then-same c =
    let cs = c.args.ring.now in
    let ms = c.args.marks.now in
    let k : 2 ≤ count ms = omega (arith, c.count_kept.ensures, c.if-count_kept-lt2.false) in
    ap (λ k. set ms k CLOSING) c.last_kept-l.ensures ∙ closing_equal cs ms c.requires k (sym (rw (c.corner.ensures, c.corner-2.ensures, c.first_kept-f.ensures, c.last_kept-l.ensures) at c.same.ensures) ∙ c.if-same.true)

pub returns-else-same : goal.returns-else-same
returns-else-same c =
    let cs = c.args.ring.now in
    let ms = c.args.marks.now in
    let k : 2 ≤ count ms = omega (arith, c.count_kept.ensures, c.if-count_kept-lt2.false) in
    closing_other cs ms c.requires k (sym (rw (c.corner.ensures, c.corner-2.ensures, c.first_kept-f.ensures, c.last_kept-l.ensures) at c.same.ensures) ∙ c.if-same.false)
