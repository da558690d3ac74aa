-- Laws of `take_while` and `drop_while`: a list cut where a test first fails. Assumes nothing.
use Rattle.std.specs.Prelude.{◌≡◌, refl, Bool, true, List, [], ◌∷◌, ◌++◌}
use Rattle.std.proofs.Common.{sym, ap, inl, inr}
use Rattle.seqs.specs.Lists.{sift, take_while, drop_while, All, Sorted}
use Rattle.seqs.specs.Tests.{either, clash, refute}
use Rattle.seqs.specs.All.{all_map}
use Rattle.seqs.specs.Sift.{sift_none}

module _ {ℓ} {A : Type ℓ} (p : A → Bool) where
  pub while_split : (l : List A) → take_while p l ++ drop_while p l ≡ l
  while_split [] = refl
  while_split (a ∷ l) = elim (either (p a)) [ inl e ↦ rw e (ap (λ r. a ∷ r) (while_split l)) | inr e ↦ rw e ]

  pub while_pass : (l : List A) → All (λ a. p a ≡ true) (take_while p l)
  while_pass [] = tt
  while_pass (a ∷ l) = elim (either (p a)) [ inl e ↦ rw e (e, while_pass l) | inr e ↦ rw e tt ]

  -- in a list where what passes is never behind what does not, the first that pass are all that pass
  pub while_sift : (l : List A) → Sorted (λ a b. p b ≡ true → p a ≡ true) l → take_while p l ≡ sift p l
  while_sift [] h = refl
  while_sift (a ∷ l) h = elim (either (p a)) [ inl e ↦ rw e (ap (λ r. a ∷ r) (while_sift l h.1)) | inr e ↦ rw e (sym (sift_none p l (all_map (λ b f. refute (p b) (λ t. clash (f t) e)) l h.0))) ]

  pub sorted_while {κ} : (R : A → A → Type κ) (l : List A) → Sorted R l → Sorted R (drop_while p l)
  sorted_while R [] h = tt
  sorted_while R (a ∷ l) h = elim (either (p a)) [ inl e ↦ rw e (sorted_while R l h.1) | inr e ↦ rw e h ]
