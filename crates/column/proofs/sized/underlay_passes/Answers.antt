-- `underlay_passes` meets its contract: each pass is what its step asks for. Assumes nothing.
use mathlib.Core.Path.{sym, ◌∙◌}
use lib.Ieee.{of_bits, round}
use Rattle.numbers.specs.Num.{literal}
use Rattle.geom.specs.Outline.{points}
use Rattle.satinrules.specs.Settings.{zigzag_underlay_spacing}
use Rattle.pairing.specs.WalkLaws.{pass_by}
use Rattle.column.specs.Sized.{under_of}
use Rattle.column.specs.SizedLaws.{run_sized, zigzag_sized}
use Rattle.column.proofs.sized.underlay_passes.Goals as goal

pub places_if-n-requires : goal.places_if-n-requires
places_if-n-requires c =
    let a = c.args in
    λ h. rw (c.pass_along-run.ensures ∙ pass_by a.course.ends (points a.course.sync.now) a.g.run_len c.requires.0) (run_sized a.course.ends (points a.course.sync.now) a.g c.requires.1 (sym c.runs.ensures ∙ h))

pub places_if-m-requires : goal.places_if-m-requires
unfolding literal of_bits round zigzag_underlay_spacing
places_if-m-requires c =
    let a = c.args in
    λ h. rw (c.pass_along-zigzag.ensures ∙ pass_by a.course.ends (points a.course.sync.now) _ c.requires.0) (zigzag_sized a.course.ends (points a.course.sync.now) a.g c.requires.1 h)

pub returns : goal.returns
unfolding literal of_bits round under_of zigzag_underlay_spacing
returns c =
    let a = c.args in
    rw (c.places_if-n.ensures, c.places_if-m.ensures, c.runs.ensures, c.pass_along-run.ensures ∙ pass_by a.course.ends (points a.course.sync.now) _ c.requires.0, c.pass_along-zigzag.ensures ∙ pass_by a.course.ends (points a.course.sync.now) _ c.requires.0)
