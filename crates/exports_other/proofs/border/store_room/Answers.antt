use mathlib.Core.Path.{◌∙◌}
use Rattle.exports_other.proofs.Rooms.{room_answer, room_floats}
use Rattle.exports_other.proofs.border.store_room.Goals as goal

pub returns : goal.returns
returns c = (c.store_count.ensures.0 ∙ room_answer c.args.r, c.store_count.ensures.1 ∙ room_floats c.args.r)
