use Rattle.std.proofs.Common.{refl}
use Rattle.std.specs.Float.Ieee.{of_bits}
use Rattle.satinrules.specs.Pairs.{centre}
use Rattle.pairing.proofs.places.Window.centre.Goals as goal

pub returns : goal.returns
unfolding centre of_bits
returns c = refl
