use native.Mathlib.Omega.{arith}
use mathlib.Core.List.{[], ◌∷◌}
use Rattle.seqs.specs.Front.{front_from, front_push2, front_end}
use Rattle.geom.specs.Sewing.{flat}
use Rattle.geom.proofs.sewing.put_point.Goals as goal

pub returns : goal.returns
unfolding flat
returns c =
    let a = c.args in
    front_end (front_push2 (front_from a.out.now (a.p.x ∷ a.p.y ∷ []) a.at (omega arith)) (omega arith))
