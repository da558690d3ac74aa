use mathlib.Core.Path.{sym, ◌∙◌}
use Rattle.geom.specs.Outline.{points}
use Rattle.pairing.specs.WalkLaws.{pass_by}
use Rattle.column.specs.Sized.{sized_at}
use Rattle.column.specs.SizedLaws.{sized_one}
use Rattle.column.proofs.sized.sized_if.Goals as goal

pub returns-then-sewn : goal.returns-then-sewn
returns-then-sewn c =
    let a = c.args in
    rw (c.if-sewn.true, c.pass_along-pass.ensures ∙ pass_by a.course.ends (points a.course.sync.now) a.step c.requires) (sym (sized_one a.course.ends (points a.course.sync.now) a.step))

pub returns : goal.returns
unfolding sized_at
returns c = rw c.if-sewn.false
