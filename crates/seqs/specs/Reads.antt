-- Parts of a list at the code's indices, and what stays of a part. Assumes nothing.
use Rattle.std.specs.Prelude.{◌≡◌, refl, List, [], ◌∷◌, ◌++◌, ℕ, zero, suc, ◌+◌, ◌-◌, ◌≤◌, ◌<◌, length, get_or, take, drop}
use Rattle.std.proofs.Common.{sym, ap, ◌∙◌, append-nil, add-one, arith, length-take-le, drop-drop, get_or-take, take-take}
use Rattle.std.proofs.Math.Seq.{slice-cons, drop-length, drop-nil, take-nil}
use Rattle.seqs.specs.Front.{next, none}

-- what is left of a count from i up to n
pub fuel_more : (n i : ℕ) → i < n → n - i ≡ suc (n - (i + 1))
fuel_more n i h = omega arith

pub fuel_none : (n i : ℕ) → n ≤ i → n - i ≡ 0
fuel_none n i h = omega arith

module _ {ℓ} {A : Type ℓ} where
  -- two at a time
  pub next2 : (l : List A) (i : ℕ) (z : A) → i + 1 < length l → drop i l ≡ get_or l i z ∷ get_or l (i + 1) z ∷ drop (i + 2) l
  next2 l i z h = let e : i + 1 + 1 ≡ i + 2 = omega arith in next l i z (omega arith) ∙ rw (next l (i + 1) z h, e)

  -- reading the first n
  pub part_next : (l : List A) (n i : ℕ) (z : A) → i < n → n ≤ length l → drop i (take n l) ≡ get_or l i z ∷ drop (i + 1) (take n l)
  part_next l n i z h k = rw add-one (slice-cons i n l z h k)

  pub part_none : (l : List A) (n i : ℕ) → n ≤ i → n ≤ length l → drop i (take n l) ≡ []
  part_none l n i h k = none (take n l) i (omega (arith, length-take-le n l k))

  pub drop_take : (k n : ℕ) (l : List A) → take n (drop k l) ≡ drop k (take (k + n) l)
  drop_take zero n l = let e : 0 + n ≡ n = omega arith in rw e
  drop_take (suc k) n [] = rw (drop-nil (suc k), take-nil n, take-nil (suc k + n))
  drop_take (suc k) n (a ∷ l) = let e : suc k + n ≡ suc (k + n) = omega arith in rw e (drop_take k n l)

  -- lists that agree up to k agree in every part before k; lists that agree from k on, from every later place on
  module _ (l m : List A) where
    pub take_on : (j k : ℕ) → j ≤ k → take k l ≡ take k m → take j l ≡ take j m
    take_on j k h e = sym (take-take j k l h) ∙ ap (take j) e ∙ take-take j k m h

    pub part_on : (i n k : ℕ) → i + n ≤ k → take k l ≡ take k m → take n (drop i l) ≡ take n (drop i m)
    part_on i n k h e = drop_take i n l ∙ ap (drop i) (take_on (i + n) k h e) ∙ sym (drop_take i n m)

    pub read_on : (j k : ℕ) (z : A) → j < k → take k l ≡ take k m → get_or l j z ≡ get_or m j z
    read_on j k z h e = sym (get_or-take k l j z h) ∙ ap (λ x. get_or x j z) e ∙ get_or-take k m j z h

    pub drop_on : (j k : ℕ) → j ≤ k → drop j l ≡ drop j m → drop k l ≡ drop k m
    drop_on j k h e =
        let s : j + (k - j) ≡ k = omega arith in
        rw s at (sym (drop-drop (k - j) j l) ∙ ap (drop (k - j)) e ∙ drop-drop (k - j) j m)

  -- within the list the default doesn't matter
  pub read_any : (l : List A) (i : ℕ) (y z : A) → i < length l → get_or l i y ≡ get_or l i z
  read_any [] i y z h = absurd (omega arith)
  read_any (a ∷ l) zero y z h = refl
  read_any (a ∷ l) (suc i) y z h = read_any l i y z (omega arith)

  -- a front as long as the slice is all of it
  pub whole : (m d : List A) → length m ≡ length d → m ++ drop (length m) d ≡ m
  whole m d e = rw (e, drop-length) (append-nil m)
