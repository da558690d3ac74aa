-- Document 01's answers of the calls along a line, each call's checks in the table's order. Definitions only.
use Rattle.std.specs.Prelude.{ℕ, List, length, Float}
use Rattle.refusal.specs.Refusal.{LAYOUT, NUMBER, SETTING, Answer, unless, answer, ◌then◌}
use Rattle.refusal.specs.Sewn.{Sewn, sewn, output}
use Rattle.geom.specs.Outline.{points}
use Rattle.geom.specs.Sewing.{flat, fitted}
use Rattle.limits.specs.Limits.{good_numbers, good_len, good_line}
use Rattle.polyline.specs.Line.{polyline_length, resample_keep_corners}

-- of a line: its layout, then its corners
abbrev pub line : List Float → ℕ
line l = unless LAYOUT (good_line l) then unless NUMBER (good_numbers l)

unfoldable pub polyline_length_answer : List Float → Answer Float
polyline_length_answer l = answer (line l) (polyline_length (points l))

-- `room` is the length of the output slice
unfoldable pub resample_refusal : List Float → Float → ℕ → ℕ
resample_refusal l len room = line l then unless SETTING (good_len len) then fitted (resample_keep_corners (points l) len) room

unfoldable pub resample_sewn : List Float → Float → ℕ → Sewn
resample_sewn l len room = sewn (resample_refusal l len room) (length (resample_keep_corners (points l) len))

unfoldable pub resample_output : List Float → Float → List Float → List Float
resample_output l len out = output (resample_refusal l len (length out)) (flat (resample_keep_corners (points l) len)) out
