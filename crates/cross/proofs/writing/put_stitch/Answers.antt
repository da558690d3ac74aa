use native.Mathlib.Omega.{arith}
use mathlib.Core.Path.{refl, ap, ◌∙◌}
use mathlib.Core.List.{[], ◌∷◌}
use Prim.Native.Nat.{◌+◌}
use lib.ListN.{length}
use Rattle.seqs.specs.Put.{put_then, put_length}
use Rattle.geom.specs.Sewing.{flat}
use Rattle.geom.specs.SewingLaws.{flat_length}
use Rattle.cross.proofs.writing.put_stitch.Goals as goal

pub put_point-requires-2 : goal.put_point-requires-2
put_point-requires-2 c = let a = c.args in
    let e = ap length c.put_point.ensures ∙ put_length a.out.now (flat (a.p ∷ [])) a.k (omega (arith, c.requires, flat_length (a.p ∷ []))) in
    omega (arith, c.requires, e)

pub returns : goal.returns
unfolding flat
returns c = let a = c.args in
    put_then a.out.now _ _ (flat (a.p ∷ [])) (flat (a.q ∷ [])) a.k (a.k + 2) (omega (arith, c.requires, flat_length (a.p ∷ []))) c.put_point.ensures refl c.put_point-2.ensures
