-- A version 2 job: its rings stand at the version 1 place of the bytes behind the first 37.
use Rattle.std.specs.Prelude.{◌≡◌, true, false, List, ℕ, ◌-◌, ◌≤◌, ◌<◌, leb, length, take, drop, Float}
use Rattle.std.proofs.Common.{sym, ap, ◌∙◌, arith, length-drop, take_all, drop-drop, leb-true}
use Rattle.seqs.specs.Tests.{and_both}
use Rattle.jobs.specs.declared.job.Job.{Job}
use Rattle.jobs.specs.Parsed.{Parsed}
use Rattle.jobs.specs.Parsed.{Done, Refused}
use Rattle.jobs.specs.declared.job2.Second.{Second}
use Rattle.jobs.specs.Parsed2.{Done as Done2, Refused as Refused2}
use Rattle.jobs.specs.Job.{byte, counted, ends_from, corners_from, framed_job, roomed, front, left}
use Rattle.jobs.specs.Theorems.{Accepted, accepted, lent_enough}
use Rattle.jobs.specs.Job2.{good_head2, second_of, corners2, ends2, decoded2, with_second, parsed2}

pub head2_long : (s : List ℕ) → good_head2 s ≡ true → 97 ≤ length s
unfolding good_head2
head2_long s t = leb-true 97 (length s) (and_both (leb 97 (length s)) _ t).0

-- the bytes that are lent, from 37 on
abbrev pub behind37 : List ℕ → List ℕ
behind37 s = take (length s - 37) (drop 37 s)

pub rings_at : (s : List ℕ) → drop 60 (behind37 s) ≡ drop 97 s
rings_at s = ap (drop 60) (take_all (length s - 37) (drop 37 s) (omega (arith, length-drop 37 s))) ∙ drop-drop 60 37 s

pub rings_long : (s : List ℕ) → 97 ≤ length s → 60 ≤ length (behind37 s)
rings_long s h = rw (take_all (length s - 37) (drop 37 s) (omega (arith, length-drop 37 s))) (omega (arith, length-drop 37 s))

module _ (s : List ℕ) (floats ends : ℕ) where
  pub parsed2_head : good_head2 s ≡ false → Refused2 1 ≡ parsed2 s floats ends
  unfolding parsed2 decoded2
  parsed2_head t = rw t

  -- q is what the version 1 functions read
  module _ (t : good_head2 s ≡ true) {q : Parsed} (is : q ≡ roomed floats ends (framed_job s (counted (byte 7 s) 0 (drop 60 (behind37 s))))) where
    parsed2_framed : with_second s q ≡ parsed2 s floats ends
    unfolding parsed2 decoded2
    parsed2_framed = rw (t, is, rings_at s)

    pub parsed2_refused : {n : ℕ} → q ≡ Refused n → Refused2 n ≡ parsed2 s floats ends
    parsed2_refused e = ap (with_second s) (sym e) ∙ parsed2_framed

    pub parsed2_done : {j : Job} {k : Second} → q ≡ Done j → k ≡ second_of s → Done2 j k ≡ parsed2 s floats ends
    parsed2_done {j} e h = ap (Done2 j) h ∙ ap (with_second s) (sym e) ∙ parsed2_framed

-- what they leave in the lent slices
pub left_kept : {A : Type 0} {q : Parsed} {n : ℕ} → q ≡ Refused n → (l d : List A) {x : List A} → x ≡ left q l d → x ≡ d
left_kept e l d h = h ∙ ap (λ z. left z l d) e

module _ (s : List ℕ) {q : Parsed} {j : Job} (e : q ≡ Done j) where
  pub left_corners2 : (d : List Float) {x : List Float} → x ≡ left q (corners_from (byte 7 s) (drop 60 (behind37 s))) d → x ≡ front (corners2 s) d
  unfolding corners2
  left_corners2 d h = h ∙ (λ i. left (e i) (corners_from (byte 7 s) (rings_at s i)) d)

  pub left_ends2 : (d : List ℕ) {x : List ℕ} → x ≡ left q (ends_from (byte 7 s) 0 (drop 60 (behind37 s))) d → x ≡ front (ends2 s) d
  unfolding ends2
  left_ends2 d h = h ∙ (λ i. left (e i) (ends_from (byte 7 s) 0 (rings_at s i)) d)

-- ---- what the caller knows

with_done : (s : List ℕ) (q : Parsed) {j : Job} {k : Second} → with_second s q ≡ Done2 j k → q ≡ Done j
with_done s (Done i) {j} {k} e = let d : i ≡ j = cc in ap Done d
with_done s (Refused n) e = let z : ◌≡◌ {A = ℕ} 0 1 = cc in absurd (omega arith)

pub accepted2 : (s : List ℕ) (floats ends : ℕ) {j : Job} {k : Second} → parsed2 s floats ends ≡ Done2 j k → Accepted s (drop 97 s) floats ends j
unfolding parsed2 decoded2
accepted2 s floats ends {j} e = accepted s (drop 97 s) (good_head2 s) floats ends j (with_done s _ e)

-- where 2,048 floats and 255 ends are lent, ROOM is never given
pub lent_enough2 : (s : List ℕ) (floats ends : ℕ) → 2048 ≤ floats → 255 ≤ ends → byte 7 s < 256 → parsed2 s floats ends ≡ with_second s (decoded2 s)
unfolding parsed2 decoded2
lent_enough2 s floats ends h l b = ap (with_second s) (lent_enough s (drop 97 s) (good_head2 s) floats ends h l b)
