-- `put_side` meets its contract: the ends of the parts but the last, and then the last. Assumes nothing.
use Prim.Native.Nat.{◌-◌}
use mathlib.Core.Path.{ap, ◌∙◌}
use mathlib.Core.List.{[], ◌∷◌}
use native.Mathlib.Omega.{arith}
use lib.IntN.{pos}
use lib.ListN.{length}
use Rattle.numbers.specs.Num.{◌⊘◌, real}
use Rattle.satinrules.specs.Column.{stagger, split_side}
use Rattle.satinrules.specs.Flat.{flat_size, flat_then}
use Rattle.styles.specs.SidesLaws.{split_points, split_length, split_parts, one_part, parts_length}
use Rattle.styles.proofs.Turns.{point_size}
use Rattle.styles.proofs.split.put_side.Goals as goal

pub put_point-requires : goal.put_point-requires
put_point-requires c =
    let a = c.args in
    omega (arith, c.requires.1, ap length (one_part a.p a.q a.max a.k a.n c.requires.0 c.if-n-le1.true))

pub overflow_add-result : goal.overflow_add-result
overflow_add-result c =
    let a = c.args in
    omega (arith, c.requires.1, c.well_formed, ap length (one_part a.p a.q a.max a.k a.n c.requires.0 c.if-n-le1.true))

pub shape_of-out-then-n-le1 : goal.shape_of-out-then-n-le1
shape_of-out-then-n-le1 c =
    let a = c.args in
    point_size _ _ a.q a.to c.put_point.ensures (omega (arith, c.requires.1, ap length (one_part a.p a.q a.max a.k a.n c.requires.0 c.if-n-le1.true)))

pub returns-then-n-le1 : goal.returns-then-n-le1
returns-then-n-le1 c =
    let a = c.args in
    let e = one_part a.p a.q a.max a.k a.n c.requires.0 c.if-n-le1.true in
    (rw e c.put_point.ensures, omega (arith, ap length e))

pub put_parts-last-requires : goal.put_parts-last-requires
put_parts-last-requires c =
    let a = c.args in
    omega (arith, c.requires.1, split_length a.p a.q a.max a.k, c.requires.0)

pub put_point-requires-2 : goal.put_point-requires-2
put_point-requires-2 c =
    let a = c.args in
    let e = rw (c.stagger.ensures, c.of_u64.ensures, ← split_parts a.p a.q a.max a.k a.n c.requires.0) at c.put_parts-last.ensures.0 in
    omega (arith, c.requires.1, split_length a.p a.q a.max a.k, c.requires.0, split_points a.p a.q a.max, c.put_parts-last.ensures.1, flat_size _ _ (split_side a.max a.k a.p a.q) (a.q ∷ []) a.to c.requires.1 e, parts_length a.p a.q a.n (stagger a.k ⊘ real (pos a.n)) 1 (a.n - 1))

pub overflow_add-result-2 : goal.overflow_add-result-2
overflow_add-result-2 c =
    let a = c.args in
    omega (arith, c.requires.1, c.well_formed, split_length a.p a.q a.max a.k, c.requires.0, split_points a.p a.q a.max, c.put_parts-last.ensures.1)

pub shape_of-out : goal.shape_of-out
shape_of-out c =
    let a = c.args in
    let e = rw (c.stagger.ensures, c.of_u64.ensures, ← split_parts a.p a.q a.max a.k a.n c.requires.0) at c.put_parts-last.ensures.0 in
    let n = split_length a.p a.q a.max a.k in
    let s = flat_size _ _ (split_side a.max a.k a.p a.q) (a.q ∷ []) a.to c.requires.1 e in
    omega (arith, s, point_size _ _ a.q c.put_parts-last.result c.put_point-2.ensures (omega (arith, c.requires.1, n, s, c.requires.0, split_points a.p a.q a.max, c.put_parts-last.ensures.1)))

pub returns : goal.returns
returns c =
    let a = c.args in
    let m = split_parts a.p a.q a.max a.k a.n c.requires.0 in
    let e = rw (c.stagger.ensures, c.of_u64.ensures, ← m) at c.put_parts-last.ensures.0 in
    let n = split_length a.p a.q a.max a.k in
    let l = ap length m ∙ parts_length a.p a.q a.n (stagger a.k ⊘ real (pos a.n)) 1 (a.n - 1) in
    (flat_then _ _ (split_side a.max a.k a.p a.q) (a.q ∷ []) a.to c.requires.1 e _ c.put_parts-last.result (omega (arith, l, c.put_parts-last.ensures.1)) c.put_point-2.ensures, omega (arith, n, c.requires.0, split_points a.p a.q a.max, c.put_parts-last.ensures.1))
