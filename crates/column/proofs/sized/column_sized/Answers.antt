use mathlib.Core.Path.{sym, ◌∙◌}
use Rattle.geom.specs.Outline.{points}
use Rattle.column.specs.SizedLaws.{sized_halves}
use Rattle.column.proofs.sized.column_sized.Goals as goal

pub underlay_sized-requires : goal.underlay_sized-requires
underlay_sized-requires c = c.total-length.ensures

pub returns-then-not-underlay_sized : goal.returns-then-not-underlay_sized
returns-then-not-underlay_sized c =
    let a = c.args in
    sym (sized_halves a.course.ends (points a.course.sync.now) a.g ∙ rw (sym c.underlay_sized.ensures ∙ c.if-not-underlay_sized.true))

pub top_sized-requires : goal.top_sized-requires
top_sized-requires c = c.total-length.ensures

pub returns : goal.returns
returns c =
    let a = c.args in
    sym (sized_halves a.course.ends (points a.course.sync.now) a.g ∙ rw (sym c.underlay_sized.ensures ∙ c.if-not-underlay_sized.false, ← c.top_sized.ensures))
