-- What the code of `fill_job` has in hand after `parse` and after `tatami` is all that a job leaves. Assumes nothing.
use Rattle.std.specs.Prelude.{◌≡◌, List, ◌++◌, ℕ, ◌*◌, length, take, drop, Float}
use Rattle.std.proofs.Common.{sym, ◌∙◌, take_at}
use Rattle.std.proofs.Math.Path.{ap}
use Rattle.jobs.specs.declared.job.Job.{Job}
use Rattle.jobs.specs.Parsed.{Parsed}
use Rattle.jobs.specs.Parsed.{Done, Refused}
use Rattle.jobs.specs.Job.{good_head, corners, ends, decoded, parsed, left as Job·left}
use Rattle.jobs.specs.Theorems.{Accepted, accepted}
use Rattle.tatami.specs.Left.{Left, left, tatami_left}
use Rattle.desk.specs.Desk.{left_of, job_left}

-- a list put to the front of a slice is read back from there
pub front_back : {A : Type 0} (l d x : List A) (n : ℕ) → length l ≡ n → x ≡ l ++ drop (length l) d → take n x ≡ l
front_back l d x n e h = ap (take n) h ∙ take_at l (drop (length l) d) n e

module _ (s : List ℕ) (f e : ℕ) (r : Parsed) (is : r ≡ parsed s f e) where
  pub job_accepted : (j : Job) → r ≡ Done j → Accepted s (drop 60 s) f e j
  unfolding parsed decoded
  job_accepted j h = accepted s (drop 60 s) (good_head 1 s) f e j (sym is ∙ h)

  -- what `parse` left in a slice, said by what the job decodes to
  pub outline_left : {A : Type 0} (l d : List A) {x : List A} → x ≡ Job·left r l d → x ≡ Job·left (parsed s f e) l d
  outline_left l d h = h ∙ ap (λ q. Job·left q l d) is

  module _ (points floats : List Float) (stops wholes : List ℕ) where
    pub left_refused : (n : ℕ) → r ≡ Refused n → left (record { answer = n; sections = 0; points = 0 }) points stops floats wholes ≡ job_left s f e points stops floats wholes
    unfolding job_left
    left_refused n h = ap (λ q. left_of s q points stops floats wholes) (sym h ∙ is)

    -- cs and es are the slices that `parse` left, of which `tatami` is lent the front
    pub left_done : (j : Job) → r ≡ Done j → (c cs : List Float) (d es : List ℕ) → cs ≡ Job·left r (corners s) c → es ≡ Job·left r (ends s) d
        → (x : Left) → x ≡ tatami_left (take (2 * j.corners) cs) (take j.rings es) j.rule j.settings j.stagger j.bottom_up points stops floats wholes
        → x ≡ job_left s f e points stops floats wholes
    unfolding job_left corners ends
    left_done j h c cs d es p q x t =
        let a = job_accepted j h in
        let u = front_back (corners s) c cs (2 * j.corners) a.numbers (p ∙ ap (λ z. Job·left z (corners s) c) h) in
        let v = front_back (ends s) d es j.rings a.rings (q ∙ ap (λ z. Job·left z (ends s) d) h) in
        t ∙ (λ i. tatami_left (u i) (v i) j.rule j.settings j.stagger j.bottom_up points stops floats wholes) ∙ ap (λ z. left_of s z points stops floats wholes) (sym h ∙ is)
