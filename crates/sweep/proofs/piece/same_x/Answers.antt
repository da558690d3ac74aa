use Rattle.rules.specs.Fill.{same_x}
use Rattle.sweep.proofs.piece.same_x.Goals as goal

pub returns : goal.returns
unfolding same_x
returns c = rw (c.to_bits.ensures, c.to_bits-2.ensures)
