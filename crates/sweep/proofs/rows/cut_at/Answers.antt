use lib.Ieee.{of_bits, round}
use mir.Syntax.{w64}
use mir.ValLaws.{to_z-of_z}
use Rattle.numbers.specs.Num.{literal}
use Rattle.rules.specs.Fill.{shrink, min_row}
use Rattle.edges.specs.Span.{row_number}
use Rattle.edges.specs.SpanLaws.{number_fits}
use Rattle.sweep.specs.Swept.{cut_at}
use Rattle.sweep.proofs.rows.cut_at.Goals as goal

pub returns : goal.returns
unfolding cut_at shrink min_row literal round of_bits
returns c =
    let a = c.args in
    rw (c.row_at.ensures, c.row_number.ensures, to_z-of_z w64 (row_number a.w a.upward a.r) (number_fits a.w a.upward a.r c.requires.0 c.requires.1), c.larger.ensures)
