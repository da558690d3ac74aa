-- Laws of `All` and `Sorted`. Assumes nothing.
use Rattle.std.proofs.Common.{sym, subst, inl, inr, arith}
use Rattle.std.specs.Prelude.{Bool, ℕ, zero, suc, ◌<◌, length, get_or, take}
use mathlib.Core.List.{List, [], ◌∷◌, ◌++◌, Memᴰ, Permᴰ}
use Rattle.seqs.specs.Lists.{sift, All, Sorted}
use Rattle.seqs.specs.Tests.{either}

module _ {ℓ κ} {A : Type ℓ} where
  pub all_map {μ} : {P : A → Type κ} {Q : A → Type μ} → ((a : A) → P a → Q a) → (l : List A) → All P l → All Q l
  all_map f [] h = tt
  all_map f (a ∷ l) h = (f a h.0, all_map f l h.1)

  pub sorted_map {μ} : {R : A → A → Type κ} {S : A → A → Type μ} → ((a b : A) → R a b → S a b) → (l : List A) → Sorted R l → Sorted S l
  sorted_map f [] h = tt
  sorted_map f (a ∷ l) h = (all_map (f a) l h.0, sorted_map f l h.1)

module _ {ℓ κ} {A : Type ℓ} (P : A → Type κ) where
  pub all_append : (l m : List A) → All P l → All P m → All P (l ++ m)
  all_append [] m h k = k
  all_append (a ∷ l) m h k = (h.0, all_append l m h.1 k)

  pub all_take : (n : ℕ) (l : List A) → All P l → All P (take n l)
  all_take zero l h = tt
  all_take (suc n) [] h = tt
  all_take (suc n) (a ∷ l) h = (h.0, all_take n l h.1)

  pub all_at : (l : List A) (i : ℕ) (z : A) → i < length l → All P l → P (get_or l i z)
  all_at [] i z g h = absurd (omega arith)
  all_at (a ∷ l) zero z g h = h.0
  all_at (a ∷ l) (suc i) z g h = all_at l i z (omega arith) h.1

  pub all_mem : {a : A} (l : List A) → All P l → Memᴰ a l → P a
  all_mem [] h m = elim m [ ]
  all_mem (b ∷ l) h (Memᴰ.head e) = subst P (sym e) h.0
  all_mem (b ∷ l) h (Memᴰ.tail m) = all_mem l h.1 m

  pub all_perm : {l m : List A} → Permᴰ l m → All P l → All P m
  all_perm Permᴰ.nil h = h
  all_perm (Permᴰ.cons e p) h = (subst P e h.0, all_perm p h.1)
  all_perm (Permᴰ.swap e f) h = (subst P f h.1.0, (subst P e h.0, h.1.1))
  all_perm (Permᴰ.trans p q) h = all_perm q (all_perm p h)

  pub all_sift : (p : A → Bool) (l : List A) → All P l → All P (sift p l)
  all_sift p [] h = tt
  all_sift p (a ∷ l) h = elim (either (p a)) [ inl e ↦ rw e (h.0, all_sift p l h.1) | inr e ↦ rw e (all_sift p l h.1) ]

module _ {ℓ κ} {A : Type ℓ} (R : A → A → Type κ) where
  -- an earlier and a later one, by index
  pub sorted_at : (l : List A) (i j : ℕ) (z : A) → i < j → j < length l → Sorted R l → R (get_or l i z) (get_or l j z)
  sorted_at [] i j z g k h = absurd (omega arith)
  sorted_at (a ∷ l) i zero z g k h = absurd (omega arith)
  sorted_at (a ∷ l) zero (suc j) z g k h = all_at (R a) l j z (omega arith) h.0
  sorted_at (a ∷ l) (suc i) (suc j) z g k h = sorted_at l i j z (omega arith) (omega arith) h.1

  pub sorted_sift : (p : A → Bool) (l : List A) → Sorted R l → Sorted R (sift p l)
  sorted_sift p [] h = tt
  sorted_sift p (a ∷ l) h = elim (either (p a)) [ inl e ↦ rw e (all_sift (R a) p l h.0, sorted_sift p l h.1) | inr e ↦ rw e (sorted_sift p l h.1) ]
