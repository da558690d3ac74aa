use Rattle.std.specs.Float.Ieee.{of_bits}
use Rattle.sweep.specs.Swept.{cuts}
use Rattle.sweep.proofs.piece.Pieces.new.Goals as goal

pub returns : goal.returns
unfolding cuts of_bits
returns c = let d = c.default.ensures in rw (d.0, d.1.0, d.1.1)
