-- Edges and pieces as far as there is room, then the need. Assumes nothing.
use mathlib.Core.Path.{refl}
use native.Mathlib.Omega.{arith}
use Rattle.finding.specs.FindLaws.{passed, short_floats, short_wholes, outlined, few_edges, edge_count, lent, lent_strict, piece_count, few_found, holds}
use borrow.Author.Rules.{rules}
use Rattle.finding.proofs.find.find.Goals as goal

pub build-e-requires : goal.build-e-requires
build-e-requires c = (outlined c.args.t.outline.corners.now c.args.t.outline.ends.now c.args.t (passed c.args.t)).few

pub overflow_mul-e : goal.overflow_mul-e
overflow_mul-e c = omega (arith, few_edges c.args.t.outline.corners.now c.args.t.outline.ends.now c.args.t (passed c.args.t), edge_count c.args.t.outline.corners.now c.args.t.outline.ends.now c.args.t (passed c.args.t) _ c.build-e.ensures)

pub sweep-i-requires : goal.sweep-i-requires
sweep-i-requires c = (lent c.args.t.outline.corners.now c.args.t.outline.ends.now c.args.t (passed c.args.t) _ c.build-e.ensures _ (search rules) (search rules) (search rules), lent_strict c.args.t.outline.corners.now c.args.t.outline.ends.now c.args.t (passed c.args.t) _ c.build-e.ensures (search rules))

pub overflow_mul-i : goal.overflow_mul-i
overflow_mul-i c = let a = c.args in omega (arith, few_found a.t.outline.corners.now a.t.outline.ends.now a.t (passed a.t) _ c.build-e.ensures _ (search rules) c.sweep-i.ensures)

pub overflow_add-e : goal.overflow_add-e
overflow_add-e c = let a = c.args in omega (arith, few_edges a.t.outline.corners.now a.t.outline.ends.now a.t (passed a.t), edge_count a.t.outline.corners.now a.t.outline.ends.now a.t (passed a.t) _ c.build-e.ensures, few_found a.t.outline.corners.now a.t.outline.ends.now a.t (passed a.t) _ c.build-e.ensures _ (search rules) c.sweep-i.ensures)

pub returns-then-floats-e-2 : goal.returns-then-floats-e-2
returns-then-floats-e-2 c = let a = c.args in record { is = (refl, short_floats a.t.outline.corners.now a.t.outline.ends.now a.t _ _ (omega (arith, c.if-floats-e-2.true, edge_count a.t.outline.corners.now a.t.outline.ends.now a.t (passed a.t) _ c.build-e.ensures, piece_count a.t.outline.corners.now a.t.outline.ends.now a.t (passed a.t) _ c.build-e.ensures _ (search rules) c.sweep-i.ensures))) }

pub returns-then-wholes-e-2 : goal.returns-then-wholes-e-2
returns-then-wholes-e-2 c = let a = c.args in record { is = (refl, short_wholes a.t.outline.corners.now a.t.outline.ends.now a.t _ _ (omega (arith, c.if-wholes-e-2.true, edge_count a.t.outline.corners.now a.t.outline.ends.now a.t (passed a.t) _ c.build-e.ensures, piece_count a.t.outline.corners.now a.t.outline.ends.now a.t (passed a.t) _ c.build-e.ensures _ (search rules) c.sweep-i.ensures))) }

pub returns : goal.returns
returns c = let a = c.args in record { is = holds a.t.outline.corners.now a.t.outline.ends.now a.t (passed a.t) _ c.build-e.ensures _ (search rules) c.sweep-i.ensures (search rules) (search rules) (search rules) }
