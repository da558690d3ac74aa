-- A job of the program `fill`, as bytes: document 01's framing. All big-endian; floats are their 64 bits. Definitions only.
use Rattle.std.specs.Prelude.{ℕ, zero, suc, ◌+◌, ◌-◌, ◌*◌, Bool, ◌&&◌, cond, List, [], ◌∷◌, ◌++◌, leb, eqb, length, get_or, take, drop, Float}
use Rattle.std.specs.Float.{binary64}
use Rattle.std.specs.Float.Ieee.{of_bits}
use Rattle.refusal.specs.Refusal.{LAYOUT, ROOM}
use Rattle.limits.specs.Limits.{most_corners}
use Rattle.outlines.specs.declared.rule.FillRule.{FillRule}
use Rattle.outlines.specs.declared.rule.FillRule.TheVariants.{NonZero, EvenOdd}
use Rattle.rules.specs.declared.Settings.{Settings}
use Rattle.std.specs.Prelude.{Option, None, Some}
use Rattle.jobs.specs.declared.job.Job.{Job}
use Rattle.jobs.specs.Parsed.{Parsed}
use Rattle.jobs.specs.Parsed.{Done, Refused}

-- ---- numbers

-- the value of big-endian bytes, after those that came to v
unfoldable pub value : ℕ → List ℕ → ℕ
value v [] = v
value v (b ∷ s) = value (v * 256 + b) s

-- the number in the n bytes at a place
unfoldable pub number : ℕ → ℕ → List ℕ → ℕ
number at n s = value 0 (take n (drop at s))

-- the float whose 64 bits stand at a place
unfoldable pub float : ℕ → List ℕ → Float
float at s = of_bits binary64 (number at 8 s)

-- the n floats that s begins with
unfoldable pub floats : ℕ → List ℕ → List Float
floats zero s = []
floats (suc n) s = float 0 s ∷ floats n (drop 8 s)

abbrev pub byte : ℕ → List ℕ → ℕ
byte at s = get_or s at 0

-- ---- the head

-- a 32-bit length of what follows, a version byte, rule byte, bottom-up byte, ring count byte, stagger 32 bits, and six floats
abbrev pub head : ℕ
head = 60

-- a wrong length, version or byte is LAYOUT
unfoldable pub good_head : ℕ → List ℕ → Bool
good_head version s = leb head (length s) && (eqb (number 0 4 s) (length s - 4) && (eqb (byte 4 s) version && (leb (byte 5 s) 1 && leb (byte 6 s) 1)))

-- 0 NonZero, 1 EvenOdd
unfoldable pub rule_of : ℕ → FillRule
rule_of b = cond (eqb b 0) NonZero EvenOdd

-- c, s; spacing, len, inset and pull at a place, which is 28 in a version 1 job
unfoldable pub settings_of : ℕ → List ℕ → Settings
settings_of at s = record { cosine = float 12 s; sine = float 20 s; spacing = float at s; len = float (at + 8) s; inset = float (at + 16) s; pull = float (at + 24) s }

-- ---- the rings, each a 16-bit corner count and its corners, x before y

-- the corner count of the ring that s begins with
unfoldable pub count : List ℕ → ℕ
count s = number 0 2 s

-- the bytes behind it
unfoldable pub behind : List ℕ → List ℕ
behind s = drop (2 + 16 * count s) s

-- the corners in all, where k rings follow n corners and end the job: None where a ring is cut short, bytes are left over, or there are over 1,024
unfoldable pub counted : ℕ → ℕ → List ℕ → Option ℕ
counted zero n s = cond (eqb (length s) 0) (Some n) None
counted (suc k) n s = cond (leb (2 + 16 * count s) (length s) && leb (n + count s) most_corners) (counted k (n + count s) (behind s)) None

-- where each of k rings ends that follow n corners
unfoldable pub ends_from : ℕ → ℕ → List ℕ → List ℕ
ends_from zero n s = []
ends_from (suc k) n s = (n + count s) ∷ ends_from k (n + count s) (behind s)

-- the corners of k rings
unfoldable pub corners_from : ℕ → List ℕ → List Float
corners_from zero s = []
corners_from (suc k) s = floats (2 * count s) (drop 2 s) ++ corners_from k (behind s)

-- ---- the job

unfoldable pub job_of : List ℕ → ℕ → Job
job_of s n = record { rule = rule_of (byte 5 s); bottom_up = eqb (byte 6 s) 1; stagger = number 8 4 s; settings = settings_of 28 s; corners = n; rings = byte 7 s }

unfoldable pub corners : List ℕ → List Float
corners s = corners_from (byte 7 s) (drop head s)

unfoldable pub ends : List ℕ → List ℕ
ends s = ends_from (byte 7 s) 0 (drop head s)

abbrev pub framed_job : List ℕ → Option ℕ → Parsed
framed_job s (Some n) = Done (job_of s n)
framed_job s None = Refused LAYOUT

-- by a head that is good or not, and the rings t
abbrev pub decoded_by : Bool → List ℕ → List ℕ → Parsed
decoded_by good s t = cond good (framed_job s (counted (byte 7 s) 0 t)) (Refused LAYOUT)

-- a job, or LAYOUT
unfoldable pub decoded : List ℕ → Parsed
decoded s = decoded_by (good_head 1 s) s (drop head s)

-- ---- the call

-- ROOM where the lent slices, of so many floats and ends, are too short
abbrev pub roomed : ℕ → ℕ → Parsed → Parsed
roomed floats ends (Done j) = cond (leb (2 * j.corners) floats && leb j.rings ends) (Done j) (Refused ROOM)
roomed floats ends (Refused n) = Refused n

unfoldable pub parsed : List ℕ → ℕ → ℕ → Parsed
parsed s floats ends = roomed floats ends (decoded s)

-- a slice with a list at its front and the rest unchanged
abbrev pub front : {A : Type 0} → List A → List A → List A
front l out = l ++ drop (length l) out

-- a lent slice afterwards: a refusal changes nothing
abbrev pub left : {A : Type 0} → Parsed → List A → List A → List A
left (Done j) l out = front l out
left (Refused n) l out = out
