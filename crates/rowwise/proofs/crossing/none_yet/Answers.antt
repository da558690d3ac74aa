use Rattle.std.proofs.Common.{refl}
use Rattle.std.specs.Float.Ieee.{of_bits}
use Rattle.rowwise.proofs.crossing.none_yet.Goals as goal

pub returns : goal.returns
unfolding of_bits
returns c = refl
