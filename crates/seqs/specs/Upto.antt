-- Laws of `upto`, and a list parted by a number of each element. Assumes nothing.
use Rattle.std.specs.Prelude.{◌≡◌, refl, Bool, true, false, ℕ, zero, suc, ◌+◌, ◌-◌, ◌≤◌, ◌<◌, eqb, length, get_or}
use Rattle.std.proofs.Common.{ap, ◌∙◌, inl, inr, arith, eqb-true, ne_eqb}
use mathlib.Core.List.Permᴰ
use mathlib.Core.List.{List, [], ◌∷◌, ◌++◌, Permᴰ}
use Rattle.std.proofs.lemmas.Bool.{eqb-false}
use Rattle.seqs.specs.Lists.{upto, keep_if, sift, each, All}
use Rattle.seqs.specs.Tests.{either}
use Rattle.seqs.specs.All.{all_map}
use Rattle.seqs.specs.Sift.{sift_append, sift_none}
use Rattle.seqs.specs.Reads.{fuel_more, fuel_none}

-- the numbers from i up to n
pub upto_next : (n i : ℕ) → i < n → upto i (n - i) ≡ i ∷ upto (i + 1) (n - (i + 1))
upto_next n i h = rw (fuel_more n i h)

pub upto_none : (n i : ℕ) → n ≤ i → upto i (n - i) ≡ []
upto_none n i h = rw (fuel_none n i h)

pub upto_length : (i n : ℕ) → length (upto i n) ≡ n
upto_length i zero = refl
upto_length i (suc n) = ap suc (upto_length (i + 1) n)

pub upto_at : (i n k z : ℕ) → k < n → get_or (upto i n) k z ≡ i + k
upto_at i zero k z h = absurd (omega arith)
upto_at i (suc n) zero z h = omega arith
upto_at i (suc n) (suc k) z h = upto_at (i + 1) n k z (omega arith) ∙ omega arith

pub upto_all : (i n : ℕ) → All (λ k. (i ≤ k) × (k < i + n)) (upto i n)
upto_all i zero = tt
upto_all i (suc n) = (omega arith, all_map (λ k h. omega (arith, h)) (upto (i + 1) n) (upto_all (i + 1) n))

pub upto_append : (i n m : ℕ) → upto i (n + m) ≡ upto i n ++ upto (i + n) m
upto_append i zero m = let e : 0 + m ≡ m = omega arith in let f : i + 0 ≡ i = omega arith in rw (e, f)
upto_append i (suc n) m = let e : suc n + m ≡ suc (n + m) = omega arith in let f : i + suc n ≡ i + 1 + n = omega arith in rw (e, f) (ap (λ r. i ∷ r) (upto_append (i + 1) n m))

-- a scan that jumps from j to k, where none between passes
pub upto_jump : (p : ℕ → Bool) (n j k : ℕ) → j ≤ k → k ≤ n → ((t : ℕ) → j ≤ t → t < k → p t ≡ false) → sift p (upto j (n - j)) ≡ sift p (upto k (n - k))
upto_jump p n j k h g f =
    let e : n - j ≡ k - j + (n - k) = omega arith in
    let s : j + (k - j) ≡ k = omega arith in
    rw (e, upto_append j (k - j) (n - k), s, sift_append p (upto j (k - j)) (upto k (n - k)), sift_none p (upto j (k - j)) (all_map (λ t b. f t b.0 (omega (arith, b))) (upto j (k - j)) (upto_all j (k - j))))

-- a turn of a loop that sifts the numbers up to n
module _ (p : ℕ → Bool) (n i : ℕ) (h : i < n) where
  pub upto_kept : p i ≡ true → sift p (upto i (n - i)) ≡ i ∷ sift p (upto (i + 1) (n - (i + 1)))
  upto_kept e = rw (upto_next n i h, e)

  pub upto_passed : p i ≡ false → sift p (upto i (n - i)) ≡ sift p (upto (i + 1) (n - (i + 1)))
  upto_passed e = rw (upto_next n i h, e)

-- ---- the parts of a list, one for each number below n, are the list in another order

module _ {ℓ} {A : Type ℓ} where
  -- one more in part t, where t lies before the numbers looked at, and among them
  elsewhere : (f : ℕ → List A) (a : A) (t i n : ℕ) → t < i → each (λ s. keep_if (eqb t s) a (f s)) (upto i n) ≡ each f (upto i n)
  elsewhere f a t i zero h = refl
  elsewhere f a t i (suc n) h = rw (ne_eqb t i (λ z. omega arith)) (ap (λ r. f i ++ r) (elsewhere f a t (i + 1) n (omega arith)))

  placed : (f : ℕ → List A) (a : A) (t i n : ℕ) → i ≤ t → t < i + n → Permᴰ (each (λ s. keep_if (eqb t s) a (f s)) (upto i n)) (a ∷ each f (upto i n))
  placed f a t i zero h k = absurd (omega arith)
  placed f a t i (suc n) h k = elim (either (eqb t i)) [
    | inl e ↦ let z = eqb-true t i e in rw (e, elsewhere f a t (i + 1) n (omega arith)) (Permᴰ.refl (a ∷ (f i ++ each f (upto (i + 1) n))))
    | inr e ↦ let l : i + 1 ≤ t = omega (arith, eqb-false t i e) in
        rw e (Permᴰ.trans (Permᴰ.append_left (f i) (placed f a t (i + 1) n l (omega arith))) (Permᴰ.middle a (f i) (each f (upto (i + 1) n))))
  ]

  empty : (i n : ℕ) → each {B = A} (λ s. []) (upto i n) ≡ []
  empty i zero = refl
  empty i (suc n) = empty (i + 1) n

  pub parts_perm : (key : A → ℕ) (n : ℕ) (l : List A) → All (λ a. key a < n) l → Permᴰ (each (λ s. sift (λ a. eqb (key a) s) l) (upto 0 n)) l
  parts_perm key n [] h = rw (empty 0 n) Permᴰ.nil
  parts_perm key n (a ∷ l) h = Permᴰ.trans (placed (λ s. sift (λ a. eqb (key a) s) l) a (key a) 0 n (omega arith) (omega (arith, h.0))) (Permᴰ.cons refl (parts_perm key n l h.1))
