-- What the program lends is enough for every job: then nothing depends on how much was lent for the outline, and a refused job is LAYOUT.
use Rattle.std.specs.Prelude.{◌≡◌, Bool, true, false, cond, List, ℕ, ◌≤◌, ◌<◌, drop, Float}
use Rattle.std.proofs.Common.{ap, arith}
use Rattle.refusal.specs.Refusal.{LAYOUT}
use Rattle.std.specs.Prelude.{Option, None, Some}
use Rattle.jobs.specs.Parsed.{Refused}
use Rattle.jobs.specs.Job.{byte, good_head, counted, framed_job, decoded_by, decoded, parsed}
use Rattle.jobs.specs.Job2.{good_head2, decoded2, with_second}
use Rattle.jobs.specs.Job2Laws.{lent_enough2}
use Rattle.jobs.specs.Theorems.{lent_enough}
use Rattle.layers.specs.Layers.{Slices}
use Rattle.desk.specs.Desk.{left_of, job_left}
use Rattle.desk.specs.Desk2.{left_of2, job2_left}

pub job_left_enough : (s : List ℕ) (f e : ℕ) (points : List Float) (stops : List ℕ) (floats : List Float) (wholes : List ℕ) → 2048 ≤ f → 255 ≤ e → byte 7 s < 256
    → job_left s f e points stops floats wholes ≡ left_of s (decoded s) points stops floats wholes
unfolding job_left parsed decoded
job_left_enough s f e points stops floats wholes h l b = ap (λ p. left_of s p points stops floats wholes) (lent_enough s (drop 60 s) (good_head 1 s) f e h l b)

pub job2_left_enough : (s : List ℕ) (f e : ℕ) (a b : Slices) (table : List Float) (places : List ℕ) → 2048 ≤ f → 255 ≤ e → byte 7 s < 256
    → job2_left s f e a b table places ≡ left_of2 s (with_second s (decoded2 s)) a b table places
unfolding job2_left
job2_left_enough s f e a b table places h l r = ap (λ p. left_of2 s p a b table places) (lent_enough2 s f e h l r)

-- so working slices are as document 01's table says after every refusal: unchanged after LAYOUT, and else as `tatami` leaves them
layout_only : (s t : List ℕ) (good : Bool) (n : ℕ) → decoded_by good s t ≡ Refused n → n ≡ LAYOUT
layout_only s t good n = go good (counted (byte 7 s) 0 t)
  where
    go : (g : Bool) (r : Option ℕ) → cond g (framed_job s r) (Refused LAYOUT) ≡ Refused n → n ≡ LAYOUT
    go true (Some m) h = let z : ◌≡◌ {A = ℕ} 0 1 = cc in absurd (omega arith)
    go true None h = cc
    go false r h = cc

pub refused_layout : (s : List ℕ) (n : ℕ) → decoded s ≡ Refused n → n ≡ LAYOUT
unfolding decoded
refused_layout s n = layout_only s (drop 60 s) (good_head 1 s) n

pub refused_layout2 : (s : List ℕ) (n : ℕ) → decoded2 s ≡ Refused n → n ≡ LAYOUT
unfolding decoded2
refused_layout2 s n = layout_only s (drop 97 s) (good_head2 s) n
