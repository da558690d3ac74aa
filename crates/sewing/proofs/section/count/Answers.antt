-- All sections, counted. Assumes nothing.
use mathlib.Core.Path.{◌≡◌, sym, ap, ◌∙◌}
use mathlib.Core.List.{map}
use Prim.Native.Nat.{◌+◌}
use native.Mathlib.Omega.{arith}
use lib.ListN.{length}
use Rattle.seqs.specs.Lists.{each}
use Rattle.std.specs.Prelude.{ℕ, Some}
use Rattle.sewing.specs.Within.{within_in, within_over, within_some, within_none}
use Rattle.rules.specs.Fill.{sewn, section}
use Rattle.sewing.specs.Sewing.{entries_in, first_sections}
use Rattle.sewing.proofs.Walks.{all_start, all_none, all_count}
use borrow.Author.Rules.{rules}
use Rattle.sewing.proofs.section.count.Goals as goal

pub loop-s-init : goal.loop-s-init
loop-s-init c = (search rules, omega (arith, ap (λ y. length (each (λ x. x) y)) (all_start c.args.t.now.field.g c.args.t.now.field.stagger (entries_in c.args.t.now.field c.args.floats.now c.args.wholes.now) c.args.sections)))

pub count_section-requires : goal.count_section-requires
count_section-requires c = (omega arith, c.loop-s.invariant.0, c.requires.1)

pub returns-in_err-c : goal.returns-in_err-c
returns-in_err-c c =
    let a = c.args in
    let l = c.loop-s in
    let e = all_count a.t.now.field.g a.t.now.field.stagger (entries_in a.t.now.field a.floats.now a.wholes.now) l.s a.sections (search rules) in
    let x = within_none a.cap (l.c + length (sewn a.t.now.field.g a.t.now.field.stagger (section (entries_in a.t.now.field a.floats.now a.wholes.now) l.s))) (sym c.in_err-c.was ∙ c.count_section.ensures) in
    rw c.from_residual.ensures (within_over a.cap (length (each (λ x. x) (map (sewn a.t.now.field.g a.t.now.field.stagger) (first_sections (entries_in a.t.now.field a.floats.now a.wholes.now) a.sections)))) (omega (arith, x, e, l.invariant.1)))

pub loop-s-preserved : goal.loop-s-preserved
loop-s-preserved c =
    let a = c.args in
    let l = c.loop-s in
    let e = all_count a.t.now.field.g a.t.now.field.stagger (entries_in a.t.now.field a.floats.now a.wholes.now) l.s a.sections (search rules) in
    let x = within_some a.cap (l.c + length (sewn a.t.now.field.g a.t.now.field.stagger (section (entries_in a.t.now.field a.floats.now a.wholes.now) l.s))) (sym c.in_ok-c.was ∙ c.count_section.ensures) in
    (omega (arith, x.0, x.1), omega (arith, x.0, e, l.invariant.1))

pub returns : goal.returns
returns c =
    let a = c.args in
    let l = c.loop-s in
    let e = ap (λ y. length (each (λ x. x) y)) (all_none a.t.now.field.g a.t.now.field.stagger (entries_in a.t.now.field a.floats.now a.wholes.now) l.s a.sections (search rules)) in
    let w = length (each (λ x. x) (map (sewn a.t.now.field.g a.t.now.field.stagger) (first_sections (entries_in a.t.now.field a.floats.now a.wholes.now) a.sections))) in
    let q : l.c ≡ w = omega (arith, l.invariant.1, e) in
    ap (λ (v : ℕ). Some v) q ∙ within_in a.cap w (omega (arith, q, l.invariant.0))
