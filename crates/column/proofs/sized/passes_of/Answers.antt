-- `passes_of` meets its contract: the top's pairs are laid as they are counted. Assumes nothing.
use mathlib.Core.Path.{◌∙◌}
use native.Mathlib.Omega.{arith}
use Rattle.geom.specs.Outline.{points}
use Rattle.pairing.specs.WalkLaws.{pass_by}
use Rattle.column.specs.Sized.{passes_of}
use Rattle.column.specs.SizedLaws.{top_sized, halves_sized}
use Rattle.column.proofs.sized.passes_of.Goals as goal

pub underlay_passes-under-requires : goal.underlay_passes-under-requires
underlay_passes-under-requires c = (c.total-length.ensures, (halves_sized c.args.rails.course.ends (points c.args.rails.course.sync.now) c.args.g c.requires).0)

pub lay_pairs-t-requires : goal.lay_pairs-t-requires
lay_pairs-t-requires c =
    let a = c.args in
    let sync = points a.rails.course.sync.now in
    (rw (c.pass_along-top.ensures ∙ pass_by a.rails.course.ends sync _ c.total-length.ensures, c.spaced.ensures) (omega (arith, top_sized a.rails.course.ends sync a.g (halves_sized a.rails.course.ends sync a.g c.requires).1)))

pub shape_of-work : goal.shape_of-work
shape_of-work c = c.lay_pairs-t.ensures.1

pub returns : goal.returns
unfolding passes_of
returns c =
    let a = c.args in
    let l = c.lay_pairs-t.ensures in
    (rw (c.underlay_passes-under.ensures, l.0, c.pass_along-top.ensures ∙ pass_by a.rails.course.ends (points a.rails.course.sync.now) _ c.total-length.ensures, c.spaced.ensures), l.1, l.2)
