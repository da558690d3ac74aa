-- The answer of `dst_read`, and what it leaves: the first refusal in file order, ROOM last. Definitions only.
use Rattle.std.specs.Prelude.{ℕ, ◌*◌, cond, List, eqb, leb, length, Float}
use Rattle.refusal.specs.Refusal.{DONE, ROOM, unless, ◌then◌}
use Rattle.refusal.specs.Sewn.{output}
use Rattle.dst.specs.Thread.{origin}
use Rattle.dst_read.specs.Unread.{Read}
use Rattle.dst_read.specs.Names.{RECORD}
use Rattle.dst_read.specs.Reading.{verdict, Marked, points_from, coordinates, marks_of}

-- of a whole file: the points of the records before the end
unfoldable pub points_read : List ℕ → List Marked
points_read bytes = points_from origin (verdict 0 bytes).number bytes

-- `room` is the length of the slice of points, `marks` that of the slice of marks
unfoldable pub read_refusal : List ℕ → ℕ → ℕ → ℕ
read_refusal bytes room marks = (verdict 0 bytes).answer then unless ROOM (leb (2 * (verdict 0 bytes).number) room) then unless ROOM (leb (verdict 0 bytes).number marks)

-- what a refusal says: of RECORD the number of the record
abbrev pub read_says : ℕ → ℕ → Read
read_says refusal n = record { answer = refusal; points = cond (eqb refusal DONE) n 0; number = cond (eqb refusal RECORD) n 0 }

unfoldable pub dst_read : List ℕ → ℕ → ℕ → Read
dst_read bytes room marks = read_says (read_refusal bytes room marks) (verdict 0 bytes).number

unfoldable pub points_left : List ℕ → ℕ → List Float → List Float
points_left bytes marks points = output (read_refusal bytes (length points) marks) (coordinates (points_read bytes)) points

unfoldable pub marks_left : List ℕ → ℕ → List ℕ → List ℕ
marks_left bytes room marks = output (read_refusal bytes room (length marks)) (marks_of (points_read bytes)) marks
