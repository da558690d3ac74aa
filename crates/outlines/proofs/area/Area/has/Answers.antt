use mathlib.Core.Path.{◌∙◌, ap}
use mir.Syntax.{w64}
use mir.ValLaws.{to_z-of_z}
use Rattle.outlines.specs.Inside.{inside, point_inside}
use Rattle.outlines.proofs.area.Area.has.Goals as goal

pub returns : goal.returns
unfolding point_inside
returns c = c.inside.ensures ∙ ap (inside c.args.self.rule) (to_z-of_z w64 c.winding.result (record { sfits = c.winding.type_inv }) ∙ c.winding.ensures)
