use mathlib.Core.Path.{◌∙◌}
use Prim.Native.Nat.{◌-◌}
use native.Mathlib.Omega.{arith}
use lib.Ieee.{nan}
use Rattle.geom.specs.Point.{point}
use Rattle.geom.specs.OutlineLaws.{points_at}
use Rattle.satinrules.specs.Arc.{on_side}
use Rattle.arc.proofs.on_side.Goals as goal

pub returns : goal.returns
unfolding on_side
returns c =
    let a = c.args in
    let p = points_at a.pts.now (a.i - 1) (point nan nan) (omega (arith, c.requires)) in
    let q = points_at a.pts.now a.i (point nan nan) (omega (arith, c.requires)) in
    c.lerp.ensures ∙ rw (c.corner.ensures, c.corner-2.ensures, c.fraction-t.ensures, p, q)
