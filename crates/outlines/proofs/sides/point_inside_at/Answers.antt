use mathlib.Core.Path.{◌≡◌, ◌∙◌, ap}
use Prim.Native.Nat.{◌-◌}
use native.Mathlib.Omega.{arith}
use lib.ListN.{take}
use mir.Syntax.{w64}
use mir.ValLaws.{to_z-of_z}
use Rattle.outlines.specs.Inside.{inside, point_inside}
use Rattle.outlines.specs.Sides.{side_sum}
use Rattle.outlines.proofs.sides.point_inside_at.Goals as goal

pub returns-then-n-s : goal.returns-then-n-s
unfolding point_inside
returns-then-n-s c =
    let e : c.args.n - 0 ≡ c.args.n = omega arith in
    let w : c.crossed.result ≡ side_sum c.args.p (take (c.args.n - 0) c.args.s.now) = c.crossed.ensures in
    c.inside.ensures ∙ ap (inside c.args.rule) (to_z-of_z w64 c.crossed.result (record { sfits = c.crossed.type_inv }) ∙ rw e at w ∙ c.requires (omega arith) c.args.p.x)

pub returns : goal.returns
returns c = rw (c.of.ensures.lent, c.of.ensures.ruled) at c.has.ensures
