use Rattle.std.proofs.Common.{arith}
use Rattle.std.specs.Float.{inf}
use Rattle.std.specs.Float.Ieee.{of_bits}
use Rattle.std.proofs.Math.Bool.{true}
use Rattle.geom.specs.Rings.{rings_of}
use Rattle.rules.specs.Fill.{edges}
use Rattle.rowwise.specs.Nearest.{left_after, row_cuts}
use Rattle.rowwise.specs.RowLaws.{sides_few}
use Rattle.rowwise.proofs.piece.Pieces.new.Goals as goal

pub invariant_of-result : goal.invariant_of-result
unfolding of_bits
invariant_of-result c =
    let d = c.default.ensures in
    let es = edges c.args.g (rings_of c.args.outline) in
    record { few = c.requires.0; clear = c.requires.1; scanning = rw (d.0, d.1.0) (record { small = omega arith; few = omega (arith, sides_few c.args.cut.y es (inf true), c.requires.2) }) }

pub returns : goal.returns
unfolding left_after row_cuts of_bits
returns c = let d = c.default.ensures in rw (d.1.0, d.1.1)
