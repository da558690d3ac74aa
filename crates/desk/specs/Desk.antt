-- What a job's bytes come to: all that is left behind, from what the job decodes to and from the fill. Definitions only.
use Rattle.std.specs.Prelude.{ℕ, List, Float}
use Rattle.jobs.specs.Parsed.{Parsed}
use Rattle.jobs.specs.Parsed.{Done, Refused}
use Rattle.jobs.specs.Job.{corners, ends, parsed}
use Rattle.tatami.specs.Left.{Left, left, tatami_left}

-- a job is filled as it says; a refused one is answered by its number and zeros, and changes nothing
abbrev pub left_of : List ℕ → Parsed → List Float → List ℕ → List Float → List ℕ → Left
left_of s (Done j) points stops floats wholes = tatami_left (corners s) (ends s) j.rule j.settings j.stagger j.bottom_up points stops floats wholes
left_of s (Refused n) points stops floats wholes = left (record { answer = n; sections = 0; points = 0 }) points stops floats wholes

-- of the bytes s, where so many floats for corners and so many ring ends are lent
unfoldable pub job_left : List ℕ → ℕ → ℕ → List Float → List ℕ → List Float → List ℕ → Left
job_left s corners ends points stops floats wholes = left_of s (parsed s corners ends) points stops floats wholes
