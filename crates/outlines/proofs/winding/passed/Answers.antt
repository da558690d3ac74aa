use mathlib.Core.Path.{sym, ◌∙◌}
use native.Mathlib.Omega.{arith}
use Rattle.geom.specs.Outline.{points}
use Rattle.outlines.specs.WindingLaws.{one_side_adds}
use Rattle.outlines.proofs.winding.passed.Goals as goal

pub returns-then-b-t : goal.returns-then-b-t
returns-then-b-t c = λ h. c.beside.ensures h (points c.args.l.now) (λ k n. c.requires (omega arith) k (omega arith) n)

pub returns : goal.returns
returns c = λ h. one_side_adds c.args.p (points c.args.l.now) (sym c.one_side.ensures ∙ h)
