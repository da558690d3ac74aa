-- Laws of `sift`. Assumes nothing.
use Rattle.std.specs.Prelude.{◌≡◌, refl, Bool, true, false, ◌&&◌, ◌≤◌, length}
use Rattle.std.proofs.Common.{sym, ap, ◌∙◌, inl, inr, arith}
use mathlib.Core.List.Memᴰ
use mathlib.Core.List.Permᴰ
use mathlib.Core.List.{List, [], ◌∷◌, ◌++◌, map, Memᴰ, Permᴰ}
use Rattle.seqs.specs.Lists.{keep_if, sift, All}
use Rattle.seqs.specs.Tests.{either, clash, refute}

module _ {ℓ} {A : Type ℓ} (p : A → Bool) where
  pub sift_append : (l m : List A) → sift p (l ++ m) ≡ sift p l ++ sift p m
  sift_append [] m = refl
  sift_append (a ∷ l) m = elim (either (p a)) [ inl e ↦ rw e (ap (λ r. a ∷ r) (sift_append l m)) | inr e ↦ rw e (sift_append l m) ]

  pub sift_map {κ} : {B : Type κ} (f : B → A) (l : List B) → sift p (map f l) ≡ map f (sift (λ b. p (f b)) l)
  sift_map f [] = refl
  sift_map f (b ∷ l) = elim (either (p (f b))) [ inl e ↦ rw e (ap (λ r. f b ∷ r) (sift_map f l)) | inr e ↦ rw e (sift_map f l) ]

  pub sift_length : (l : List A) → length (sift p l) ≤ length l
  sift_length [] = omega arith
  sift_length (a ∷ l) = elim (either (p a)) [ inl e ↦ rw e (omega (arith, sift_length l)) | inr e ↦ rw e (omega (arith, sift_length l)) ]

  -- those kept pass, and are members, and the other way round
  pub sift_pass : (l : List A) → All (λ a. p a ≡ true) (sift p l)
  sift_pass [] = tt
  sift_pass (a ∷ l) = elim (either (p a)) [ inl e ↦ rw e (e, sift_pass l) | inr e ↦ rw e (sift_pass l) ]

  pub sift_from : {a : A} (l : List A) → Memᴰ a (sift p l) → Memᴰ a l
  sift_from [] m = elim m [ ]
  sift_from (b ∷ l) m = elim (either (p b)) [ inl e ↦ elim (Memᴰ.cases_cons (rw e at m)) [ inl q ↦ Memᴰ.head q | inr k ↦ Memᴰ.tail (sift_from l k) ] | inr e ↦ Memᴰ.tail (sift_from l (rw e at m)) ]

  pub sift_in : {a : A} (l : List A) → Memᴰ a l → p a ≡ true → Memᴰ a (sift p l)
  sift_in [] m t = elim m [ ]
  sift_in (b ∷ l) (Memᴰ.head q) t = rw (sym (ap p q) ∙ t) (Memᴰ.head q)
  sift_in (b ∷ l) (Memᴰ.tail k) t = elim (either (p b)) [ inl e ↦ rw e (Memᴰ.tail (sift_in l k t)) | inr e ↦ rw e (sift_in l k t) ]

  pub sift_all : (l : List A) → All (λ a. p a ≡ true) l → sift p l ≡ l
  sift_all [] h = refl
  sift_all (a ∷ l) h = rw h.0 (ap (λ r. a ∷ r) (sift_all l h.1))

  pub sift_none : (l : List A) → All (λ a. p a ≡ false) l → sift p l ≡ []
  sift_none [] h = refl
  sift_none (a ∷ l) h = rw h.0 (sift_none l h.1)

  -- another test that agrees on the list
  pub sift_same : (q : A → Bool) (l : List A) → All (λ a. p a ≡ q a) l → sift p l ≡ sift q l
  sift_same q [] h = refl
  sift_same q (a ∷ l) h = rw h.0 (ap (keep_if (q a) a) (sift_same q l h.1))

  -- two tests, one after the other; a later test that implies this one absorbs it
  pub sift_both : (q : A → Bool) (l : List A) → sift (λ a. p a && q a) l ≡ sift q (sift p l)
  sift_both q [] = refl
  sift_both q (a ∷ l) = elim (either (p a)) [ inl e ↦ rw e (ap (keep_if (q a) a) (sift_both q l)) | inr e ↦ rw e (sift_both q l) ]

  pub sift_absorb : (q : A → Bool) → ((a : A) → q a ≡ true → p a ≡ true) → (l : List A) → sift q (sift p l) ≡ sift q l
  sift_absorb q i [] = refl
  sift_absorb q i (a ∷ l) = elim (either (p a)) [ inl e ↦ rw e (ap (keep_if (q a) a) (sift_absorb q i l)) | inr e ↦ rw (e, refute (q a) (λ t. clash (i a t) e)) (sift_absorb q i l) ]

  -- of a list in another order
  pub sift_perm : {l m : List A} → Permᴰ l m → Permᴰ (sift p l) (sift p m)
  sift_perm Permᴰ.nil = Permᴰ.nil
  sift_perm (Permᴰ.cons {a} e h) = rw (← e) (elim (either (p a)) [ inl t ↦ rw t (Permᴰ.cons refl (sift_perm h)) | inr t ↦ rw t (sift_perm h) ])
  sift_perm (Permᴰ.swap {a} {b} {l = l} e f) = rw (← e, ← f) (go (p a) (p b))
    where
      go : (s t : Bool) → Permᴰ (keep_if s a (keep_if t b (sift p l))) (keep_if t b (keep_if s a (sift p l)))
      go true true = Permᴰ.swap refl refl
      go true false = Permᴰ.refl (a ∷ sift p l)
      go false true = Permᴰ.refl (b ∷ sift p l)
      go false false = Permᴰ.refl (sift p l)
  sift_perm (Permᴰ.trans h k) = Permᴰ.trans (sift_perm h) (sift_perm k)
