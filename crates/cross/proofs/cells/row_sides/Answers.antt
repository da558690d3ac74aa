use native.Mathlib.Omega.{arith}
use lib.Ieee.{of_bits}
use Rattle.cross.proofs.cells.row_sides.Goals as goal

pub returns-then-badge-lt3 : goal.returns-then-badge-lt3
returns-then-badge-lt3 c = λ h x. absurd (omega arith)

pub returns : goal.returns
unfolding of_bits
returns c = c.gather.ensures
