use mathlib.Core.Path.{◌≡◌, sym, ◌∙◌}
use mathlib.Core.List.{[], ◌∷◌}
use lib.Ieee.{of_bits, round}
use Rattle.numbers.specs.Num.{literal}
use Rattle.geom.specs.Outline.{points}
use Rattle.satinrules.specs.Settings.{zigzag_underlay_spacing}
use Rattle.satinrules.specs.Column.{only_if, bit}
use Rattle.satin.specs.Underlay.{runs}
use Rattle.column.specs.Sized.{sized_at}
use Rattle.column.specs.SizedLaws.{sized_underlay}
use Rattle.column.proofs.sized.underlay_sized.Goals as goal

pub sized_if-requires : goal.sized_if-requires
sized_if-requires c = c.requires

pub returns-then-not-sized_if : goal.returns-then-not-sized_if
returns-then-not-sized_if c =
    let a = c.args in
    let e : c.sized_if.result ≡ sized_at a.course.ends (points a.course.sync.now) (only_if (runs a.g) (a.g.run_len ∷ [])) = rw c.runs.ensures at c.sized_if.ensures in
    sym (sized_underlay a.course.ends (points a.course.sync.now) a.g ∙ rw (sym e ∙ c.if-not-sized_if.true))

pub sized_if-requires-2 : goal.sized_if-requires-2
sized_if-requires-2 c = c.requires

pub returns : goal.returns
unfolding literal of_bits round zigzag_underlay_spacing
returns c =
    let a = c.args in
    let e = rw c.runs.ensures at c.sized_if.ensures in
    let f : c.sized_if-2.result ≡ sized_at a.course.ends (points a.course.sync.now) (only_if (bit a.g 4) (zigzag_underlay_spacing ∷ [])) = c.sized_if-2.ensures in
    sym (sized_underlay a.course.ends (points a.course.sync.now) a.g ∙ rw (sym e ∙ c.if-not-sized_if.false, ← f))
