use lib.Ieee.{of_bits}
use mir.Syntax.{w64}
use mir.ValLaws.{to_z-of_z}
use Rattle.rules.specs.Fill.{row_at}
use Rattle.edges.proofs.rows.row_at.Goals as goal

pub returns : goal.returns
unfolding row_at of_bits
returns c = rw (c.of_i64.ensures, to_z-of_z w64 c.args.k c.ranges.k)
