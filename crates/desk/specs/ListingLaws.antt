-- What a job leaves can be listed: each section ends where the next starts, and within the points. Assumes nothing.
use Rattle.std.specs.Prelude.{◌≡◌, Bool, true, false, cond, List, [], ◌∷◌, ◌++◌, ℕ, ◌+◌, ◌*◌, ◌≤◌, eqb, length, take, drop, Float}
use Rattle.std.proofs.Common.{sym, subst, zero-le, arith, length-append, take_at}
use Rattle.std.proofs.lemmas.List.{length-replicate}
use Rattle.refusal.specs.Refusal.{DONE}
use Rattle.numbers.specs.Num.{zero64}
use Rattle.geom.specs.declared.point.P.{P}
use Rattle.geom.specs.Sewing.{flat}
use Rattle.geom.specs.SewingLaws.{flat_length}
use Rattle.rules.specs.Calls.{worked, sewn_points, sewn_ends}
use Rattle.rules.specs.CallLaws.{ends_length}
use Rattle.jobs.specs.Parsed.{Parsed}
use Rattle.jobs.specs.Parsed.{Done, Refused}
use Rattle.jobs.specs.Job.{good_head, decoded, parsed}
use Rattle.jobs.specs.Text.{listing, Ends}
use Rattle.tatami.specs.Left.{Filled, Left, left, left_by, tatami_left}
use Rattle.layers.specs.Layers.{Slices, layer_left, twice_left}
use Rattle.jobs.specs.Parsed2.{Parsed2}
use Rattle.jobs.specs.Parsed2.{Done as Done2, Refused as Refused2}
use Rattle.jobs.specs.Job2.{parsed2}
use Rattle.desk.specs.Desk.{left_of, job_left}
use Rattle.desk.specs.Desk2.{left_of2, job2_left}
use Rattle.desk.specs.Listing.{listing_of, lent_left, Told}

-- the ends of sections don't fall, and are places of their points
ends_climb : (l : List Float) (n : ℕ) (ss : List (List P)) → 2 * (n + length (sewn_points ss)) ≤ length l → Ends l n (sewn_ends n ss)
unfolding sewn_ends sewn_points
ends_climb l n [] h = tt
ends_climb l n (s ∷ ss) h =
    let e = length-append s (sewn_points ss) in
    (omega arith, omega (arith, e), ends_climb l (n + length s) ss (omega (arith, e)))

module _ (points floats : List Float) (stops wholes : List ℕ) where
  -- the outputs after 0
  abbrev sewn : List (List P) → List Float
  sewn ss = flat (sewn_points ss) ++ drop (length (flat (sewn_points ss))) points

  abbrev ended : List (List P) → List ℕ
  ended ss = sewn_ends 0 ss ++ drop (length (sewn_ends 0 ss)) stops

  by_told : (n : ℕ) (ss : List (List P)) → Told (left_by n ss points stops floats wholes)
  by_told n ss = go (eqb n DONE)
    where
      go : (b : Bool) → Told (left (record { answer = n; sections = cond b (length ss) 0; points = cond b (length (sewn_points ss)) 0 }) (cond b (sewn ss) points) (cond b (ended ss) stops) (worked n zero64 floats) (worked n 0 wholes))
      go true = record {
        sections = omega (arith, ends_length 0 ss, length-append (sewn_ends 0 ss) (drop (length (sewn_ends 0 ss)) stops));
        ends = subst (Ends (sewn ss) 0) (sym (take_at (sewn_ends 0 ss) (drop (length (sewn_ends 0 ss)) stops) (length ss) (ends_length 0 ss)))
            (ends_climb (sewn ss) 0 ss (omega (arith, flat_length (sewn_points ss), length-append (flat (sewn_points ss)) (drop (length (flat (sewn_points ss))) points))));
      }
      go false = record { sections = zero-le; ends = tt }

  of_told : (s : List ℕ) (r : Parsed) → Told (left_of s r points stops floats wholes)
  unfolding tatami_left
  of_told s (Done j) = by_told _ _
  of_told s (Refused n) = record { sections = zero-le; ends = tt }

  pub job_told : (s : List ℕ) (f e : ℕ) → Told (job_left s f e points stops floats wholes)
  unfolding job_left
  job_told s f e = of_told s (parsed s f e)

-- both fills of a version 2 job
module _ (a b : Slices) (table : List Float) (places : List ℕ) where
  of_told2 : (s : List ℕ) (r : Parsed2) → Told (left_of2 s r a b table places).first × Told (left_of2 s r a b table places).second
  unfolding twice_left layer_left
  of_told2 s (Done2 j k) = (by_told a.points a.floats a.stops a.wholes _ _, by_told b.points b.floats b.stops b.wholes _ _)
  of_told2 s (Refused2 n) = (record { sections = zero-le; ends = tt }, record { sections = zero-le; ends = tt })

  pub job2_told : (s : List ℕ) (f e : ℕ) → Told (job2_left s f e a b table places).first × Told (job2_left s f e a b table places).second
  unfolding job2_left
  job2_told s f e = of_told2 s (parsed2 s f e)

-- of what the code has in hand
module _ (l : Left) {r : Filled} {points : List Float} {stops : List ℕ} (a : r ≡ l.said) (b : points ≡ l.points) (c : stops ≡ l.ends) where
  pub told_read : Told l → (r.sections ≤ length stops) × Ends points 0 (take r.sections stops)
  told_read t = rw (a, b, c) (t.sections, t.ends)

  pub listing_is : listing r.answer r.sections r.points points stops ≡ listing_of l
  listing_is i = listing (a i).answer (a i).sections (a i).points (b i) (c i)

-- what the program lends, read off a badly framed job, which changes none of it: 4,096 points of two floats, 512 sections, 8,192 of each working kind
pub lent_points : length (lent_left []).points ≡ 2 * 4096
unfolding job_left parsed decoded good_head
lent_points = length-replicate 8192 zero64

pub lent_sections : length (lent_left []).ends ≡ 512
unfolding job_left parsed decoded good_head
lent_sections = length-replicate {A = ℕ} 512 0

pub lent_floats : length (lent_left []).floats ≡ 8192
unfolding job_left parsed decoded good_head
lent_floats = length-replicate 8192 zero64

pub lent_wholes : length (lent_left []).wholes ≡ 8192
unfolding job_left parsed decoded good_head
lent_wholes = length-replicate {A = ℕ} 8192 0
