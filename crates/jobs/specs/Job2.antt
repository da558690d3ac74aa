-- A version 2 job (request [6]): a version 1 job with a second fill's own values behind pull. Definitions only.
use Rattle.std.specs.Prelude.{ℕ, Bool, ◌&&◌, List, leb, eqb, length, drop, Float}
use Rattle.jobs.specs.Parsed.{Parsed}
use Rattle.jobs.specs.Parsed.{Done, Refused}
use Rattle.jobs.specs.declared.job2.Second.{Second}
use Rattle.jobs.specs.Parsed2.{Parsed2}
use Rattle.jobs.specs.Parsed2.{Done as Done2, Refused as Refused2}
use Rattle.jobs.specs.Job.{number, byte, good_head, settings_of, ends_from, corners_from, decoded_by, roomed, front}

-- the first fill's 60 bytes; a second bottom-up byte, stagger 32 bits, spacing, len, inset and pull
abbrev pub head2 : ℕ
head2 = 97

-- a wrong byte of the second's is LAYOUT too
unfoldable pub good_head2 : List ℕ → Bool
good_head2 s = leb head2 (length s) && (leb (byte 60 s) 1 && good_head 2 s)

-- c and s are the first's
unfoldable pub second_of : List ℕ → Second
second_of s = record { bottom_up = eqb (byte 60 s) 1; stagger = number 61 4 s; settings = settings_of 65 s }

unfoldable pub corners2 : List ℕ → List Float
corners2 s = corners_from (byte 7 s) (drop head2 s)

unfoldable pub ends2 : List ℕ → List ℕ
ends2 s = ends_from (byte 7 s) 0 (drop head2 s)

-- the outline and the first fill, or LAYOUT
unfoldable pub decoded2 : List ℕ → Parsed
decoded2 s = decoded_by (good_head2 s) s (drop head2 s)

-- ---- the call

abbrev pub with_second : List ℕ → Parsed → Parsed2
with_second s (Done j) = Done2 j (second_of s)
with_second s (Refused n) = Refused2 n

unfoldable pub parsed2 : List ℕ → ℕ → ℕ → Parsed2
parsed2 s floats ends = with_second s (roomed floats ends (decoded2 s))

-- a lent slice afterwards: a refusal changes nothing
abbrev pub left2 : {A : Type 0} → Parsed2 → List A → List A → List A
left2 (Done2 j k) l out = front l out
left2 (Refused2 n) l out = out
