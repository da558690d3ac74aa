-- Numbers in bytes, a turn at a time; the rings, one by one.
use Rattle.std.specs.Prelude.{◌≡◌, refl, true, false, List, [], ◌∷◌, ◌++◌, ◌⊎◌, leb, eqb, length, take, drop, get_or}
use Rattle.std.proofs.Common.{sym, ap, subst, ◌∙◌, inl, inr, lt_irrefl, lt_of_lt_of_le, pos_of_ne-zero, pow_mono, pow-add, length-append, drop-drop}
use Prim.Native.Nat.{ℕ, zero, suc, ◌+◌, ◌-◌, ◌*◌, ◌^◌, ◌≤◌, ◌<◌}
use native.Mathlib.Omega.{arith}
use borrow.Author.Tests.{le-leb, lt-leb, eq-eqb, ne_eqb, leb-true, leb-false, eqb-true, eqb-false}
use Rattle.seqs.specs.Front.{next}
use Rattle.seqs.specs.Reads.{fuel_more}
use Rattle.seqs.specs.Tests.{either, and_both}
use Rattle.std.specs.Prelude.{None, Some}
use Rattle.jobs.specs.Parsed.{Done, Refused}
use Rattle.jobs.specs.Job.{value, number, float, floats, byte, good_head, count, behind, counted, ends_from, corners_from, job_of, framed_job, roomed, decoded, parsed}

-- ---- numbers

-- the next byte of the n at a place
pub value_turn : (s : List ℕ) (at n i v : ℕ) → i < n → at + n ≤ length s
    → value v (take (n - i) (drop (at + i) s)) ≡ value (v * 256 + get_or s (at + i) 0) (take (n - (i + 1)) (drop (at + (i + 1)) s))
unfolding value
value_turn s at n i v h r =
    let e : at + i + 1 ≡ at + (i + 1) = omega arith in
    rw (fuel_more n i h, next s (at + i) 0 (omega arith), e)

pub value_end : (s : List ℕ) (at n i v : ℕ) → n ≤ i → value v (take (n - i) (drop (at + i) s)) ≡ v
unfolding value
value_end s at n i v h = let e : n - i ≡ 0 = omega arith in rw e

-- the value of i bytes
pub value_more : (v b i : ℕ) → v < 2 ^ (8 * i) → b < 256 → v * 256 + b < 2 ^ (8 * (i + 1))
value_more v b i h l =
    let e : 2 ^ (8 * (i + 1)) ≡ 2 ^ (8 * i) * 256 = ap (λ (k : ℕ). 2 ^ k) (eight i) ∙ pow-add 2 (8 * i) 8 in
    subst (λ (x : ℕ). v * 256 + b < x) (sym e) (times (2 ^ (8 * i)) h)
  where
    eight : (i : ℕ) → 8 * (i + 1) ≡ 8 * i + 8
    eight i = omega arith

    times : (x : ℕ) → v < x → v * 256 + b < x * 256
    times x h = omega arith

pub value_below : (v i : ℕ) → v < 2 ^ (8 * i) → i ≤ 8 → v < 2 ^ 64
value_below v i h l = lt_of_lt_of_le h (pow_mono (most i l))
  where
    most : (i : ℕ) → i ≤ 8 → 8 * i ≤ 64
    most i l = omega arith

-- ---- floats

pub floats_turn : (s : List ℕ) (at n i : ℕ) → i < n → floats (n - i) (drop (at + 8 * i) s) ≡ float (at + 8 * i) s ∷ floats (n - (i + 1)) (drop (at + 8 * (i + 1)) s)
unfolding floats float number
floats_turn s at n i h =
    let e : at + 8 * i + 8 ≡ at + 8 * (i + 1) = omega arith in
    rw (fuel_more n i h, drop-drop 8 (at + 8 * i) s, e)

pub floats_end : (s : List ℕ) (n i : ℕ) → n ≤ i → floats (n - i) s ≡ []
unfolding floats
floats_end s n i h = let e : n - i ≡ 0 = omega arith in rw e

pub floats_length : (n : ℕ) (s : List ℕ) → length (floats n s) ≡ n
unfolding floats
floats_length zero s = refl
floats_length (suc n) s = ap suc (floats_length n (drop 8 s))

-- ---- rings

pub behind_at : (s : List ℕ) (at c : ℕ) → c ≡ count (drop at s) → behind (drop at s) ≡ drop (at + (2 + 16 * c)) s
unfolding behind
behind_at s at c e = drop-drop (2 + 16 * count (drop at s)) at s ∙ rw e

-- a ring is whole, or not; there are too many corners, or not
module _ (n : ℕ) (s : List ℕ) where
  pub counted_short : (k : ℕ) → 0 < k → length s < 2 + 16 * count s → counted k n s ≡ None
  unfolding counted
  counted_short zero p h = absurd (lt_irrefl 0 p)
  counted_short (suc k) p h = rw (lt-leb _ _ h)

  pub counted_many : (k : ℕ) → 0 < k → 2 + 16 * count s ≤ length s → 1024 < n + count s → counted k n s ≡ None
  unfolding counted
  counted_many zero p h l = absurd (lt_irrefl 0 p)
  counted_many (suc k) p h l = rw (le-leb _ _ h, lt-leb _ _ l)

  pub counted_next : (k : ℕ) → 0 < k → 2 + 16 * count s ≤ length s → n + count s ≤ 1024 → counted k n s ≡ counted (k - 1) (n + count s) (behind s)
  unfolding counted
  counted_next zero p h l = absurd (lt_irrefl 0 p)
  counted_next (suc k) p h l = let e : suc k - 1 ≡ k = omega arith in rw (le-leb _ _ h, le-leb _ _ l, e)

  pub counted_over : 0 < length s → counted 0 n s ≡ None
  unfolding counted
  counted_over h = rw (ne_eqb (length s) 0 (λ e. absurd (omega arith)))

  pub counted_end : length s ≡ 0 → counted 0 n s ≡ Some n
  unfolding counted
  counted_end h = rw (eq-eqb (length s) 0 h)

-- the first of k rings that are well framed
pub record Ring (k n : ℕ) (s : List ℕ) (m : ℕ) : Type 0 where
  pub whole : 2 + 16 * count s ≤ length s
  pub few : n + count s ≤ 1024
  pub rest : counted (k - 1) (n + count s) (behind s) ≡ Some m

badly {ℓ} : {X : Type ℓ} {m : ℕ} → None ≡ Some m → X
badly e = let z : ◌≡◌ {A = ℕ} 0 1 = cc in absurd (omega arith)

pub ring : (k n : ℕ) (s : List ℕ) (m : ℕ) → 0 < k → counted k n s ≡ Some m → Ring k n s m
ring k n s m p e = go (either (leb (2 + 16 * count s) (length s))) (either (leb (n + count s) 1024))
  where
    go : (leb (2 + 16 * count s) (length s) ≡ true) ⊎ (leb (2 + 16 * count s) (length s) ≡ false) → (leb (n + count s) 1024 ≡ true) ⊎ (leb (n + count s) 1024 ≡ false) → Ring k n s m
    go (inl a) (inl b) =
        let h = leb-true _ _ a in
        let l = leb-true _ _ b in
        record { whole = h; few = l; rest = sym (counted_next n s k p h l) ∙ e }
    go (inl a) (inr b) = badly (sym (counted_many n s k p (leb-true _ _ a) (leb-false _ _ b)) ∙ e)
    go (inr a) b = badly (sym (counted_short n s k p (leb-false _ _ a)) ∙ e)

-- after the last ring nothing is left
pub counted_last : (n : ℕ) (s : List ℕ) (m : ℕ) → counted 0 n s ≡ Some m → n ≡ m
counted_last n s m e = go (either (eqb (length s) 0))
  where
    go : (eqb (length s) 0 ≡ true) ⊎ (eqb (length s) 0 ≡ false) → n ≡ m
    go (inl a) = let f : Some n ≡ Some m = sym (counted_end n s (eqb-true _ _ a)) ∙ e in cc
    go (inr a) = badly (sym (counted_over n s (pos_of_ne-zero (eqb-false _ _ a))) ∙ e)

pub counted_few : (k n : ℕ) (s : List ℕ) (m : ℕ) → n ≤ 1024 → counted k n s ≡ Some m → m ≤ 1024
counted_few zero n s m h e = omega (arith, counted_last n s m e)
counted_few (suc k) n s m h e =
    let r = ring (suc k) n s m (omega arith) e in
    let o : suc k - 1 ≡ k = omega arith in
    counted_few k (n + count s) (behind s) m r.few (rw o at r.rest)

-- ---- what the rings hold

pub ends_turn : (k n : ℕ) (s : List ℕ) → 0 < k → ends_from k n s ≡ (n + count s) ∷ ends_from (k - 1) (n + count s) (behind s)
unfolding ends_from
ends_turn zero n s p = absurd (lt_irrefl 0 p)
ends_turn (suc k) n s p = let e : suc k - 1 ≡ k = omega arith in rw e

pub ends_none : (n : ℕ) (s : List ℕ) → ends_from 0 n s ≡ []
unfolding ends_from
ends_none n s = refl

pub ends_length : (k n : ℕ) (s : List ℕ) → length (ends_from k n s) ≡ k
unfolding ends_from
ends_length zero n s = refl
ends_length (suc k) n s = ap suc (ends_length k (n + count s) (behind s))

pub corners_turn : (k : ℕ) (s : List ℕ) → 0 < k → corners_from k s ≡ floats (2 * count s) (drop 2 s) ++ corners_from (k - 1) (behind s)
unfolding corners_from
corners_turn zero s p = absurd (lt_irrefl 0 p)
corners_turn (suc k) s p = let e : suc k - 1 ≡ k = omega arith in rw e

pub corners_none : (s : List ℕ) → corners_from 0 s ≡ []
unfolding corners_from
corners_none s = refl

-- the first ring's, at the code's places
pub corners_at : (s : List ℕ) (at k c : ℕ) → 0 < k → c ≡ count (drop at s) → corners_from k (drop at s) ≡ floats (2 * c) (drop (at + 2) s) ++ corners_from (k - 1) (drop (at + (2 + 16 * c)) s)
corners_at s at k c p e = corners_turn k (drop at s) p ∙ rw (behind_at s at c e, drop-drop 2 at s, e)

-- as many as were counted
pub corners_length : (k n : ℕ) (s : List ℕ) (m : ℕ) → counted k n s ≡ Some m → 2 * n + length (corners_from k s) ≡ 2 * m
corners_length zero n s m e = rw (corners_none s) (omega (arith, counted_last n s m e))
corners_length (suc k) n s m e =
    let r = ring (suc k) n s m (omega arith) e in
    let o : suc k - 1 ≡ k = omega arith in
    let i = corners_length k (n + count s) (behind s) m (rw o at r.rest) in
    let a = length-append (floats (2 * count s) (drop 2 s)) (corners_from k (behind s)) in
    let f = floats_length (2 * count s) (drop 2 s) in
    rw (corners_turn (suc k) s (omega arith), o) (omega (arith, i, a, f))

-- ---- the call

pub head_long : (version : ℕ) (s : List ℕ) → good_head version s ≡ true → 60 ≤ length s
unfolding good_head
head_long version s t = leb-true 60 (length s) (and_both (leb 60 (length s)) _ t).0

-- of a good head, and the rings t
module _ (s t : List ℕ) (floats ends : ℕ) where
  pub framed_badly : counted (byte 7 s) 0 t ≡ None → Refused 1 ≡ roomed floats ends (framed_job s (counted (byte 7 s) 0 t))
  framed_badly e = rw e

  module _ (n : ℕ) (e : counted (byte 7 s) 0 t ≡ Some n) where
    pub framed_corners : floats < 2 * n → Refused 7 ≡ roomed floats ends (framed_job s (counted (byte 7 s) 0 t))
    unfolding job_of
    framed_corners h = rw (e, lt-leb (2 * n) floats h)

    pub framed_ends : 2 * n ≤ floats → ends < byte 7 s → Refused 7 ≡ roomed floats ends (framed_job s (counted (byte 7 s) 0 t))
    unfolding job_of
    framed_ends h l = rw (e, le-leb (2 * n) floats h, lt-leb (byte 7 s) ends l)

    pub framed_done : 2 * n ≤ floats → byte 7 s ≤ ends → Done (job_of s n) ≡ roomed floats ends (framed_job s (counted (byte 7 s) 0 t))
    unfolding job_of
    framed_done h l = rw (e, le-leb (2 * n) floats h, le-leb (byte 7 s) ends l)

module _ (s : List ℕ) (floats ends : ℕ) where
  pub parsed_head : good_head 1 s ≡ false → Refused 1 ≡ parsed s floats ends
  unfolding parsed decoded
  parsed_head t = rw t

  pub parsed_framed : good_head 1 s ≡ true → roomed floats ends (framed_job s (counted (byte 7 s) 0 (drop 60 s))) ≡ parsed s floats ends
  unfolding parsed decoded
  parsed_framed t = rw t
