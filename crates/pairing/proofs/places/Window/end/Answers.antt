use Rattle.std.specs.Float.Ieee.{of_bits, round}
use Rattle.numbers.specs.Num.{literal}
use Rattle.polyline.specs.Line.{shortest}
use Rattle.pairing.proofs.places.Window.end.Goals as goal

pub returns : goal.returns
unfolding literal of_bits round shortest
returns c = rw c.centre.ensures
