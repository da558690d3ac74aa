-- Document 01's K1 as a job of length 122, by computing.
use Rattle.std.specs.Prelude.{◌≡◌, refl, true, false, ℕ, ◌+◌, List, [], ◌∷◌, ◌++◌, length, replicate, Float}
use Rattle.std.specs.Float.Ieee.{round, of_bits}
use Rattle.numbers.specs.Num.{literal}
use Rattle.outlines.specs.declared.rule.FillRule.TheVariants.{NonZero}
use Rattle.jobs.specs.Parsed.{Done}
use Rattle.jobs.specs.Parsed2.{Done as Done2}
use Rattle.jobs.specs.Job.{value, number, float, floats, good_head, rule_of, settings_of, count, behind, counted, ends_from, corners_from, job_of, corners, ends, decoded}
use Rattle.jobs.specs.Job2.{good_head2, second_of, corners2, ends2, decoded2, with_second}

-- a float's 64 bits, of which those behind the first 16 are zeros
abbrev bits : ℕ → ℕ → List ℕ
bits a b = a ∷ b ∷ replicate 6 0

abbrev zeros : List ℕ
zeros = bits 0 0

-- 40 24 is 10, 40 10 is 4, 3f f0 is 1
abbrev ten : List ℕ
ten = bits 64 36

abbrev corners_of_q : List ℕ
corners_of_q = (0 ∷ 4 ∷ []) ++ zeros ++ zeros ++ ten ++ zeros ++ ten ++ ten ++ zeros ++ ten

-- the length 122, version 1, NonZero, not bottom up, one ring, stagger 1; c, s, spacing, len, inset, pull; four corners
abbrev pub k1_bytes : List ℕ
k1_bytes =
    (0 ∷ 0 ∷ 0 ∷ 122 ∷ 1 ∷ 0 ∷ 0 ∷ 1 ∷ 0 ∷ 0 ∷ 0 ∷ 1 ∷ [])
    ++ bits 63 240 ++ zeros ++ bits 64 16 ++ ten ++ zeros ++ zeros
    ++ corners_of_q

abbrev n : ℕ → Float
n a = unfold literal in literal a 1

pub k1_length : length k1_bytes ≡ 4 + 122
k1_length = refl

-- document 01's Q, with its settings
pub k1_job : decoded k1_bytes ≡ Done (record { rule = NonZero; bottom_up = false; stagger = 1; settings = record { spacing = n 4; len = n 10; inset = n 0; pull = n 0; cosine = n 1; sine = n 0 }; corners = 4; rings = 1 })
unfolding round of_bits literal value number float good_head rule_of settings_of count behind counted job_of decoded
k1_job = refl

pub k1_corners : corners k1_bytes ≡ n 0 ∷ n 0 ∷ n 10 ∷ n 0 ∷ n 10 ∷ n 10 ∷ n 0 ∷ n 10 ∷ []
unfolding round of_bits literal value number float floats count behind corners_from corners
k1_corners = refl

pub k1_ends : ends k1_bytes ≡ 4 ∷ []
unfolding value number count behind ends_from ends
k1_ends = refl

-- ---- a version 2 job (request [6])

-- K1's of the length 159 and version 2, with a second fill behind pull: bottom up, stagger 3, spacing 5, len 8, inset 1, pull 2
abbrev pub two_bytes : List ℕ
two_bytes =
    (0 ∷ 0 ∷ 0 ∷ 159 ∷ 2 ∷ 0 ∷ 0 ∷ 1 ∷ 0 ∷ 0 ∷ 0 ∷ 1 ∷ [])
    ++ bits 63 240 ++ zeros ++ bits 64 16 ++ ten ++ zeros ++ zeros
    ++ (1 ∷ 0 ∷ 0 ∷ 0 ∷ 3 ∷ []) ++ bits 64 20 ++ bits 64 32 ++ bits 63 240 ++ bits 64 0
    ++ corners_of_q

pub two_length : length two_bytes ≡ 4 + 159
two_length = refl

pub two_fills : with_second two_bytes (decoded2 two_bytes) ≡ Done2
    (record { rule = NonZero; bottom_up = false; stagger = 1; settings = record { spacing = n 4; len = n 10; inset = n 0; pull = n 0; cosine = n 1; sine = n 0 }; corners = 4; rings = 1 })
    (record { bottom_up = true; stagger = 3; settings = record { spacing = n 5; len = n 8; inset = n 1; pull = n 2; cosine = n 1; sine = n 0 } })
unfolding round of_bits literal value number float good_head rule_of settings_of count behind counted job_of good_head2 second_of decoded2
two_fills = refl

pub two_corners : corners2 two_bytes ≡ corners k1_bytes
unfolding value number float floats count behind corners_from corners corners2
two_corners = refl

pub two_ends : ends2 two_bytes ≡ 4 ∷ []
unfolding value number count behind ends_from ends2
two_ends = refl
