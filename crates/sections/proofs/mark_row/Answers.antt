use mathlib.Core.Path.{◌≡◌, refl, sym, ◌∙◌}
use Prim.Native.Nat.{◌+◌, ◌*◌}
use native.Mathlib.Omega.{arith}
use Rattle.seqs.specs.Wrote.{run_start, run_at, run_step, run_end}
use Rattle.geom.specs.Rings.{rings_of}
use Rattle.sections.specs.MarkFrame.{mark_kept, low_kept, row_next, row_none}
use borrow.Author.Rules.{rules}
use Rattle.sections.proofs.mark_row.Goals as goal

pub loop-j-init : goal.loop-j-init
loop-j-init c = record { from = omega arith; to = c.args.l.row; most = c.requires.3; run = run_start _ _ _; news = refl }

pub mark_at-m-requires : goal.mark_at-m-requires
mark_at-m-requires c =
    let a = c.args in
    let v = c.loop-j.invariant in (
      omega (arith, c.requires.0, v.run.size),
      c.loop-j-test.true,
      low_kept (rings_of a.area.outline) a.area.rule a.g a.l.pieces.now c.loop-j.wholes a.wholes.now a.l.s v.run.kept 1000000 c.requires.1,
      v.from,
    )

pub overflow_mul-j : goal.overflow_mul-j
overflow_mul-j c = omega (arith, c.loop-j.invariant.most, c.loop-j.invariant.to, c.loop-j.invariant.run.size, c.args.l.all, c.requires.0, c.requires.2)

pub overflow_add-l : goal.overflow_add-l
overflow_add-l c = omega (arith, c.loop-j.invariant.most, c.loop-j.invariant.to, c.loop-j.invariant.run.size, c.args.l.all, c.requires.0, c.requires.2)

pub put_mark-requires : goal.put_mark-requires
put_mark-requires c = omega (arith, c.loop-j.invariant.most, c.loop-j.invariant.to, c.loop-j.invariant.run.size, c.args.l.all, c.requires.0, c.requires.2)

pub after-section-requires : goal.after-section-requires
after-section-requires c = omega (arith, c.loop-j.invariant.most, c.loop-j.invariant.to, c.loop-j.invariant.run.size, c.args.l.all, c.requires.0, c.requires.2)

pub loop-j-preserved : goal.loop-j-preserved
loop-j-preserved c =
    let a = c.args in
    let l = c.loop-j in
    let v = l.invariant in
    let rs = rings_of a.area.outline in
    let q = mark_kept rs a.area.rule a.g a.l.pieces.now l.wholes a.wholes.now a.l.s v.run.kept l.section l.j a.l.opens in
    let m = c.mark_at-m.ensures ∙ q in
    let e = row_next rs a.area.rule a.g a.l.pieces.now a.wholes.now a.l.s l.section l.j a.l.s.r1 c.loop-j-test.true in
    let x = rw m at c.put_mark.ensures in
    let f = rw m at c.after-section.ensures in
    let k : a.l.s.n + 2 * l.j + 2 ≡ a.l.s.n + 2 * (l.j + 1) = omega arith in
    record {
      from = omega (arith, v.from);
      to = omega arith;
      most = omega (arith, v.most, f.1);
      run = rw (f.0, ← k) (run_step _ _ (run_at e.0 v.run) x);
      news = rw f.0 (sym e.1 ∙ v.news);
    }

pub shape_of-wholes : goal.shape_of-wholes
shape_of-wholes c = c.loop-j.invariant.run.size

pub returns : goal.returns
returns c =
    let a = c.args in
    let l = c.loop-j in
    let e = row_none (rings_of a.area.outline) a.area.rule a.g a.l.pieces.now a.wholes.now a.l.s l.section l.j a.l.s.r1 (search rules) in
    (run_end (run_at e.0 l.invariant.run), sym e.1 ∙ l.invariant.news, omega (arith, l.invariant.most, l.invariant.to))
