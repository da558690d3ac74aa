-- What the code of `fill_job2` has in hand after `parse2` and after `tatami_twice` is all that a version 2 job leaves. Assumes nothing.
use Rattle.std.specs.Prelude.{◌≡◌, List, ℕ, ◌*◌, take, drop, Float}
use Rattle.std.proofs.Common.{sym, ◌∙◌}
use Rattle.std.proofs.Math.Path.{ap}
use Rattle.jobs.specs.declared.job.Job.{Job}
use Rattle.jobs.specs.declared.job2.Second.{Second}
use Rattle.jobs.specs.Parsed2.{Parsed2}
use Rattle.jobs.specs.Parsed2.{Done, Refused}
use Rattle.jobs.specs.Job2.{corners2, ends2, parsed2, left2}
use Rattle.jobs.specs.Theorems.{Accepted}
use Rattle.jobs.specs.Job2Laws.{accepted2}
use Rattle.tatami.specs.Left.{left}
use Rattle.layers.specs.declared.Layer.{Layer}
use Rattle.layers.specs.Layers.{Slices, Twice, twice, twice_left}
use Rattle.desk.specs.DeskLaws.{front_back}
use Rattle.desk.specs.Desk2.{layer_of, nothing, left_of2, job2_left}

module _ (s : List ℕ) (f e : ℕ) (r : Parsed2) (is : r ≡ parsed2 s f e) where
  pub job2_accepted : (j : Job) (k : Second) → r ≡ Done j k → Accepted s (drop 97 s) f e j
  job2_accepted j k h = accepted2 s f e (sym is ∙ h)

  -- what `parse2` left in a slice, said by what the job decodes to
  pub outline_left2 : {A : Type 0} (l d : List A) {x : List A} → x ≡ left2 r l d → x ≡ left2 (parsed2 s f e) l d
  outline_left2 l d h = h ∙ ap (λ q. left2 q l d) is

  module _ (a b : Slices) (table : List Float) (places : List ℕ) where
    pub left_refused2 : (n : ℕ) → r ≡ Refused n
        → twice (left (nothing n) a.points a.stops a.floats a.wholes) (left (nothing n) b.points b.stops b.floats b.wholes) table places ≡ job2_left s f e a b table places
    unfolding job2_left
    left_refused2 n h = ap (λ q. left_of2 s q a b table places) (sym h ∙ is)

    -- cs and es are the slices that `parse2` left, of which `tatami_twice` is lent the front
    pub left_done2 : (j : Job) (k : Second) → r ≡ Done j k → (c cs : List Float) (d es : List ℕ) → cs ≡ left2 r (corners2 s) c → es ≡ left2 r (ends2 s) d
        → {first second : Layer} → first ≡ layer_of j.settings j.stagger j.bottom_up → second ≡ layer_of k.settings k.stagger k.bottom_up
        → (x : Twice) → x ≡ twice_left (take (2 * j.corners) cs) (take j.rings es) j.rule j.settings.cosine j.settings.sine first second a b table places
        → x ≡ job2_left s f e a b table places
    unfolding job2_left corners2 ends2
    left_done2 j k h c cs d es p q m o x t =
        let w = job2_accepted j k h in
        let u = front_back (corners2 s) c cs (2 * j.corners) w.numbers (p ∙ ap (λ z. left2 z (corners2 s) c) h) in
        let v = front_back (ends2 s) d es j.rings w.rings (q ∙ ap (λ z. left2 z (ends2 s) d) h) in
        t ∙ (λ i. twice_left (u i) (v i) j.rule j.settings.cosine j.settings.sine (m i) (o i) a b table places) ∙ ap (λ z. left_of2 s z a b table places) (sym h ∙ is)
