use mathlib.Core.Path.{refl}
use mathlib.Core.List.{[], ◌∷◌}
use Prim.Native.Nat.{◌+◌}
use native.Mathlib.Omega.{arith}
use Rattle.satinrules.specs.Flat.{flat_size, flat_then}
use Rattle.pairing.specs.StoreLaws.{two_size}
use Rattle.pairing.proofs.store.put_pair.Goals as goal

pub put_point-requires-2 : goal.put_point-requires-2
put_point-requires-2 c =
    let a = c.args in
    omega (arith, c.requires, flat_size a.w.now _ (a.q.a ∷ []) (a.q.b ∷ []) a.to c.requires c.put_point.ensures)

pub shape_of-w : goal.shape_of-w
shape_of-w c =
    let a = c.args in
    two_size a.w.now _ a.q.a a.q.b a.to c.requires (flat_then a.w.now _ (a.q.a ∷ []) (a.q.b ∷ []) a.to c.requires c.put_point.ensures _ (a.to + 2) refl c.put_point-2.ensures)

pub returns : goal.returns
returns c =
    let a = c.args in
    flat_then a.w.now _ (a.q.a ∷ []) (a.q.b ∷ []) a.to c.requires c.put_point.ensures _ (a.to + 2) refl c.put_point-2.ensures
