-- Marks, then links. Assumes nothing.
use mathlib.Core.Path.{◌∙◌}
use native.Mathlib.Omega.{arith}
use Rattle.tatami.specs.EntryLaws.{few_pieces, few_rows, lent_rise, begun_is, linkable, sectioned}
use Rattle.tatami.proofs.sew.sections_of.Goals as goal

pub mark_all-sections-requires : goal.mark_all-sections-requires
mark_all-sections-requires c = let a = c.args in (c.requires.floats, omega (arith, c.requires.wholes), few_pieces a.t.outline.corners.now a.t.outline.ends.now a.t a.n a.pieces.now a.numbers.now c.requires, few_rows a.t.outline.corners.now a.t.outline.ends.now a.t a.n a.pieces.now a.numbers.now c.requires, lent_rise a.t.outline.corners.now a.t.outline.ends.now a.t a.n a.pieces.now a.numbers.now c.requires)

pub link-requires : goal.link-requires
link-requires c =
    let a = c.args in
    let m = c.mark_all-sections.ensures in
    let s = m.1 ∙ begun_is a.t.outline.corners.now a.t.outline.ends.now a.t a.n a.pieces.now a.numbers.now c.requires _ m.0 in
    linkable a.t.outline.corners.now a.t.outline.ends.now a.t a.n a.pieces.now a.numbers.now c.requires _ m.0 _ s m.2

pub returns : goal.returns
returns c =
    let a = c.args in
    let m = c.mark_all-sections.ensures in
    let s = m.1 ∙ begun_is a.t.outline.corners.now a.t.outline.ends.now a.t a.n a.pieces.now a.numbers.now c.requires _ m.0 in
    sectioned a.t.outline.corners.now a.t.outline.ends.now a.t a.n a.pieces.now a.numbers.now c.requires _ m.0 _ _ s m.2 c.link.ensures
