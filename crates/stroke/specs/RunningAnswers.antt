-- Document 01's answer of `running`, its checks in the table's order. Definitions only.
use Rattle.std.specs.Prelude.{ℕ, Bool, List, length, Float}
use Rattle.refusal.specs.Refusal.{SETTING, unless, ◌then◌}
use Rattle.refusal.specs.Sewn.{Sewn, sewn, output}
use Rattle.geom.specs.Outline.{points}
use Rattle.limits.specs.Limits.{good_len, good_passes}
use Rattle.geom.specs.Sewing.{flat, fitted}
use Rattle.geometry.specs.LineAnswers.{line}
use Rattle.stroke.specs.Running.{running}

-- `room` is the length of the output slice
unfoldable pub running_refusal : List Float → Bool → Float → ℕ → ℕ → ℕ
running_refusal l closed len passes room =
    line l then unless SETTING (good_len len) then unless SETTING (good_passes passes) then fitted (running (points l) closed len passes) room

unfoldable pub running_sewn : List Float → Bool → Float → ℕ → ℕ → Sewn
running_sewn l closed len passes room = sewn (running_refusal l closed len passes room) (length (running (points l) closed len passes))

unfoldable pub running_output : List Float → Bool → Float → ℕ → List Float → List Float
running_output l closed len passes out = output (running_refusal l closed len passes (length out)) (flat (running (points l) closed len passes)) out
