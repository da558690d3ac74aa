use Rattle.std.specs.Float.Ieee.{of_bits}
use Rattle.geom.specs.Outline.{points}
use Rattle.pairing.specs.WalkLaws.{left_whole}
use Rattle.pairing.proofs.places.Places.of.Goals as goal

pub returns : goal.returns
unfolding of_bits
returns c = left_whole c.args.ends (points c.args.sync.now) c.args.pass _ c.of.ensures
