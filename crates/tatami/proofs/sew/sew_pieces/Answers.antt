-- Sections, then stitches. Assumes nothing.
use Rattle.tatami.specs.RoomLaws.{sewn_is, field_linked, sewed_of}
use Rattle.tatami.proofs.sew.sew_pieces.Goals as goal

pub sections_of-sections-requires : goal.sections_of-sections-requires
sections_of-sections-requires c = c.requires

pub sew-requires : goal.sew-requires
sew-requires c = field_linked c.sections_of-sections.ensures _ c.field_of.ensures

pub returns : goal.returns
returns c = sewed_of c.args.points.now c.args.stops.now (sewn_is c.sections_of-sections.ensures _ c.field_of.ensures) c.sew.ensures
