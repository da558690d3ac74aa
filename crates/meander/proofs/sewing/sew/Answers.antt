-- `sew` meets its contract. Assumes nothing.
use native.Mathlib.Omega.{arith}
use mathlib.Core.Path.{◌∙◌}
use Prim.Native.Nat.{◌≤◌}
use lib.ListN.{length}
use Rattle.geom.specs.Rings.{rings_of}
use Rattle.meander_rules.specs.Meander.{points_of}
use Rattle.meander.specs.PathLaws.{marked_length, lines_walked}
use Rattle.meander.proofs.sewing.sew.Goals as goal

pub mark-requires : goal.mark-requires
mark-requires c = omega (arith, c.requires.1)

pub walks-t-requires : goal.walks-t-requires
walks-t-requires c = let a = c.args in let l = marked_length (rings_of a.ground.area.outline) a.ground.area.rule a.ground.grid a.w.now (omega (arith, c.requires.1)) c.mark.ensures in (c.requires.0, omega (arith, l, c.requires.1))

pub sew_paths-requires : goal.sew_paths-requires
sew_paths-requires c = c.walks-t.ensures.1

pub shape_of-w : goal.shape_of-w
shape_of-w c = let a = c.args in c.walks-t.ensures.2 ∙ marked_length (rings_of a.ground.area.outline) a.ground.area.rule a.ground.grid a.w.now (omega (arith, c.requires.1)) c.mark.ensures

pub returns : goal.returns
returns c = let a = c.args in
    let h : points_of a.ground.grid ≤ length a.w.now = omega (arith, c.requires.1) in
    let l = marked_length (rings_of a.ground.area.outline) a.ground.area.rule a.ground.grid a.w.now h c.mark.ensures in
    let e = lines_walked (rings_of a.ground.area.outline) a.ground.area.rule a.ground.grid a.w.now h c.mark.ensures a.len a.seed _ (rw c.first_seed.ensures at c.walks-t.ensures.0) in
    (rw e at c.sew_paths.ensures, c.walks-t.ensures.2 ∙ l)
