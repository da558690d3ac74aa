-- What an accepted job holds, and that the room of document 01's limits is enough; that `places` counts digits.
use Rattle.std.specs.Prelude.{◌≡◌, Bool, ◌⊎◌, List, ℕ, zero, suc, ◌+◌, ◌-◌, ◌*◌, ◌/◌, ◌%◌, ◌^◌, ◌≤◌, ◌<◌, leb, ltb}
use Rattle.std.proofs.Math.Path.{refl}
use Rattle.std.proofs.Common.{subst, ◌∙◌, inl, inr, lt_of_lt_of_le, pow-suc, add-one, lit≤}
use Rattle.std.proofs.Math.Bool.{true, false}
use native.Mathlib.Omega.{arith}
use Rattle.std.proofs.Math.ListN.{length}
use borrow.Author.Tests.{le-leb, eq-eqb, leb-true, leb-false, ltb-true, ltb-false}
use Rattle.seqs.specs.Tests.{either}
use Rattle.geom.specs.Outline.{rising}
use Rattle.limits.specs.Limits.{good_outline}
use Rattle.std.specs.Prelude.{Option, None, Some}
use Rattle.jobs.specs.declared.job.Job.{Job}
use Rattle.jobs.specs.Parsed.{Done, Refused}
use Rattle.jobs.specs.Job.{byte, count, behind, counted, ends_from, corners_from, job_of, framed_job, decoded_by, roomed}
use Rattle.jobs.specs.Text.{places}
use Rattle.jobs.specs.JobLaws.{ring, counted_last, counted_few, ends_turn, ends_none, ends_length, corners_length, framed_badly, framed_corners, framed_ends, framed_done}

-- ---- accepted jobs

-- ring ends of rings that are well framed never fall, and the last is the corner count
rings_rise : (k n : ℕ) (s : List ℕ) (m : ℕ) → counted k n s ≡ Some m → rising n (ends_from k n s) m ≡ true
unfolding rising
rings_rise zero n s m e = rw (ends_none n s) (eq-eqb n m (counted_last n s m e))
rings_rise (suc k) n s m e =
    let r = ring (suc k) n s m (omega arith) e in
    let o : suc k - 1 ≡ k = omega arith in
    rw (ends_turn (suc k) n s (omega arith), o, le-leb n (n + count s) (omega arith)) (rings_rise k (n + count s) (behind s) m (rw o at r.rest))

-- what the caller of `parse` knows of a job with the rings t, where so many floats and ends were lent
pub record Accepted (s t : List ℕ) (floats rooms : ℕ) (j : Job) : Type 0 where
  pub is : j ≡ job_of s j.corners
  pub numbers : length (corners_from (byte 7 s) t) ≡ 2 * j.corners
  pub rings : length (ends_from (byte 7 s) 0 t) ≡ j.rings
  pub few : j.corners ≤ 1024
  pub numbers_fit : 2 * j.corners ≤ floats
  pub rings_fit : j.rings ≤ rooms
  pub layout : byte 7 s < 256 → good_outline (corners_from (byte 7 s) t) (ends_from (byte 7 s) 0 t) ≡ true

refuses {ℓ} : {X : Type ℓ} {n : ℕ} {j : Job} → Refused n ≡ Done j → X
refuses e = let z : ◌≡◌ {A = ℕ} 0 1 = cc in absurd (omega arith)

module _ (s t : List ℕ) where
  outline : (n : ℕ) → counted (byte 7 s) 0 t ≡ Some n → byte 7 s < 256 → good_outline (corners_from (byte 7 s) t) (ends_from (byte 7 s) 0 t) ≡ true
  unfolding good_outline
  outline n e h =
      let a : length (corners_from (byte 7 s) t) ≡ 2 * n = omega (arith, corners_length (byte 7 s) 0 t n e) in
      let b = ends_length (byte 7 s) 0 t in
      let c : length (corners_from (byte 7 s) t) % 2 ≡ 0 = omega arith in
      let d : length (corners_from (byte 7 s) t) / 2 ≡ n = omega arith in
      let f = counted_few (byte 7 s) 0 t n (omega arith) e in
      rw (c, d, b, le-leb (byte 7 s) 255 (omega arith), le-leb n 1024 f) (rings_rise (byte 7 s) 0 t n e)

  made : (f r n : ℕ) → counted (byte 7 s) 0 t ≡ Some n → 2 * n ≤ f → byte 7 s ≤ r → Accepted s t f r (job_of s n)
  unfolding job_of
  made f r n e h l = record {
    is = refl;
    numbers = omega (arith, corners_length (byte 7 s) 0 t n e);
    rings = ends_length (byte 7 s) 0 t;
    few = counted_few (byte 7 s) 0 t n (omega arith) e;
    numbers_fit = h;
    rings_fit = l;
    layout = outline n e;
  }

  -- of either version, by a head that is good or not
  pub accepted : (good : Bool) (f r : ℕ) (j : Job) → roomed f r (decoded_by good s t) ≡ Done j → Accepted s t f r j
  accepted good f r j = go good (counted (byte 7 s) 0 t) refl
    where
      fits : (n : ℕ) → counted (byte 7 s) 0 t ≡ Some n → roomed f r (framed_job s (counted (byte 7 s) 0 t)) ≡ Done j
          → (leb (2 * n) f ≡ true) ⊎ (leb (2 * n) f ≡ false) → (leb (byte 7 s) r ≡ true) ⊎ (leb (byte 7 s) r ≡ false) → Accepted s t f r j
      fits n e p (inl a) (inl b) =
          let h = leb-true (2 * n) f a in
          let l = leb-true (byte 7 s) r b in
          let d : Done (job_of s n) ≡ Done j = framed_done s t f r n e h l ∙ p in
          let q : job_of s n ≡ j = cc in
          subst (λ (x : Job). Accepted s t f r x) q (made f r n e h l)
      fits n e p (inl a) (inr b) = refuses (framed_ends s t f r n e (leb-true (2 * n) f a) (leb-false (byte 7 s) r b) ∙ p)
      fits n e p (inr a) b = refuses (framed_corners s t f r n e (leb-false (2 * n) f a) ∙ p)

      go : (g : Bool) (w : Option ℕ) → counted (byte 7 s) 0 t ≡ w → roomed f r (decoded_by g s t) ≡ Done j → Accepted s t f r j
      go true (Some n) e p = fits n e p (either (leb (2 * n) f)) (either (leb (byte 7 s) r))
      go true None e p = refuses (framed_badly s t f r e ∙ p)
      go false w e p = refuses p

  -- where 2,048 floats and 255 ends are lent, ROOM is never given
  pub lent_enough : (good : Bool) (f r : ℕ) → 2048 ≤ f → 255 ≤ r → byte 7 s < 256 → roomed f r (decoded_by good s t) ≡ decoded_by good s t
  unfolding job_of
  lent_enough good f r h l b = go good (counted (byte 7 s) 0 t) refl
    where
      go : (g : Bool) (w : Option ℕ) → counted (byte 7 s) 0 t ≡ w → roomed f r (decoded_by g s t) ≡ decoded_by g s t
      go true (Some n) e = rw (e, le-leb (2 * n) f (omega (arith, counted_few (byte 7 s) 0 t n (omega arith) e)), le-leb (byte 7 s) r (omega arith))
      go true None e = rw e
      go false w e = refl

-- ---- digits

-- k digits are as many as n needs: enough, and no fewer would do
pub record Fewest (n k : ℕ) : Type 0 where
  pub some : 1 ≤ k
  pub enough : n < 10 ^ k
  pub needed : 1 < k → 10 ^ (k - 1) ≤ n

-- one digit more
fewest_more : (n p : ℕ) → 10 ≤ n → Fewest (n / 10) p → Fewest n (p + 1)
fewest_more n zero h r = absurd (omega (arith, r.some))
fewest_more n (suc zero) h r = record { some = omega arith; enough = omega (arith, r.enough); needed = λ l. h }
fewest_more n (suc (suc p)) h r = record {
  some = omega arith;
  enough = rw (add-one, pow-suc 10 (suc (suc p))) (under (10 ^ suc (suc p)) r.enough);
  needed = λ l. rw (less, pow-suc 10 (suc p)) (over (10 ^ suc p) (rw fewer at (r.needed (omega arith))));
}
  where
    less : suc (suc p) + 1 - 1 ≡ suc (suc p)
    less = omega arith

    fewer : suc (suc p) - 1 ≡ suc p
    fewer = omega arith

    under : (x : ℕ) → n / 10 < x → n < x * 10
    under x l = omega arith

    over : (x : ℕ) → x ≤ n / 10 → x * 10 ≤ n
    over x l = omega arith

pub places_fewest : (k n : ℕ) → n < 10 ^ suc k → Fewest n (places k n)
unfolding places
places_fewest zero n h = record { some = omega arith; enough = h; needed = λ l. absurd (omega arith) }
places_fewest (suc k) n h = go (places_fewest k (n / 10) (tenth (10 ^ suc k) (rw pow-suc at h))) (either (ltb n 10))
  where
    tenth : (x : ℕ) → n < x * 10 → n / 10 < x
    tenth x l = omega arith

    go : Fewest (n / 10) (places k (n / 10)) → (ltb n 10 ≡ true) ⊎ (ltb n 10 ≡ false) → Fewest n (places (suc k) n)
    go r (inl t) = rw t (record { some = omega arith; enough = omega (arith, ltb-true n 10 t); needed = λ l. absurd (omega arith) })
    go r (inr t) = rw t (fewest_more n (places k (n / 10)) (ltb-false n 10 t) r)

-- so of every 64-bit number
pub decimal_fewest : (n : ℕ) → n < 2 ^ 64 → Fewest n (places 19 n)
decimal_fewest n h = places_fewest 19 n (lt_of_lt_of_le h (lit≤ tt))
