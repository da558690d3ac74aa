-- The answer of `dst`, its checks in document 01's order. Definitions only.
use Rattle.std.specs.Prelude.{ℕ, ◌%◌, List, eqb, leb, length, Float}
use Rattle.refusal.specs.Refusal.{LAYOUT, NUMBER, ROOM, unless, ◌then◌}
use Rattle.refusal.specs.Sewn.{Written, written, output}
use Rattle.limits.specs.Limits.{good_numbers}
use Rattle.geom.specs.Outline.{points}
use Rattle.dst.specs.Thread.{dst_bytes}

-- `room` is the length of the output slice
unfoldable pub dst_refusal : List Float → ℕ → ℕ
dst_refusal l room = unless LAYOUT (eqb (length l % 2) 0) then unless NUMBER (good_numbers l) then unless ROOM (leb (length (dst_bytes (points l))) room)

unfoldable pub dst_written : List Float → ℕ → Written
dst_written l room = written (dst_refusal l room) (length (dst_bytes (points l)))

unfoldable pub dst_output : List Float → List ℕ → List ℕ
dst_output l out = output (dst_refusal l (length out)) (dst_bytes (points l)) out
