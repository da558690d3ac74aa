-- `put_added` meets its contract. Assumes nothing.
use native.Mathlib.Omega.{arith}
use mathlib.Core.Path.{refl, ap, ◌∙◌}
use mathlib.Core.List.{[], ◌∷◌}
use Prim.Native.Nat.{◌+◌, ◌*◌}
use lib.ListN.{length}
use Rattle.seqs.specs.Put.{put_none, put_then, put_length}
use Rattle.geom.specs.Sewing.{flat}
use Rattle.geom.specs.SewingLaws.{flat_length}
use Rattle.clip.proofs.put_added.Goals as goal

pub put_point-requires : goal.put_point-requires
put_point-requires c = omega (arith, rw (c.if-kept.true, c.if-on.true, flat_length (c.args.q ∷ [])) at c.requires)

pub returns-then-on : goal.returns-then-on
returns-then-on c = rw (c.if-kept.true, c.if-on.true) c.put_point.ensures

pub put_point-requires-then-kept : goal.put_point-requires-then-kept
put_point-requires-then-kept c = omega (arith, rw (c.if-kept.true, c.if-on.false, flat_length (c.args.p ∷ c.args.q ∷ [])) at c.requires)

pub put_point-requires-then-kept-2 : goal.put_point-requires-then-kept-2
put_point-requires-then-kept-2 c = let a = c.args in
    let h = rw (c.if-kept.true, c.if-on.false, flat_length (a.p ∷ a.q ∷ [])) at c.requires in
    let e = ap length c.put_point-then-kept.ensures ∙ put_length a.out.now (flat (a.p ∷ [])) (2 * a.n) (omega (arith, h, flat_length (a.p ∷ []))) in
    omega (arith, h, e)

pub returns-then-kept : goal.returns-then-kept
unfolding flat
returns-then-kept c = let a = c.args in
    let h = rw (c.if-kept.true, c.if-on.false, flat_length (a.p ∷ a.q ∷ [])) at c.requires in
    rw (c.if-kept.true, c.if-on.false) (put_then a.out.now _ _ (flat (a.p ∷ [])) (flat (a.q ∷ [])) (2 * a.n) (2 * a.n + 2) (omega (arith, h, flat_length (a.p ∷ []))) c.put_point-then-kept.ensures refl c.put_point-then-kept-2.ensures)

pub returns : goal.returns
unfolding flat
returns c = rw c.if-kept.false (put_none c.args.out.now (2 * c.args.n) (omega (arith, c.requires)))
