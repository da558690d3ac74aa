-- What a point is, by its number. Definitions only.
use Rattle.std.specs.Prelude.{ℕ}
use Rattle.dst_read.specs.declared.mark.Mark.{Mark}
use Rattle.dst_read.specs.declared.mark.Mark.TheVariants.{Stitch, Jump, Stop}
use Rattle.dst_read.specs.Names.{STITCH, JUMP, STOP}

abbrev pub mark_number : Mark → ℕ
mark_number Stitch = STITCH
mark_number Jump = JUMP
mark_number Stop = STOP
