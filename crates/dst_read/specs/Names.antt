-- Request [5]'s refusals, the marks of points, and the most records. Definitions only.
use Rattle.std.specs.Prelude.{ℕ}

abbrev pub RECORD : ℕ
RECORD = 8

abbrev pub CUT : ℕ
CUT = 9

abbrev pub STITCH : ℕ
STITCH = 0

abbrev pub JUMP : ℕ
JUMP = 1

abbrev pub STOP : ℕ
STOP = 2

abbrev pub most_records : ℕ
most_records = 1000000
