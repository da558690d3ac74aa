-- Laws of `each`, `fold` and `every`. Assumes nothing.
use Rattle.std.specs.Prelude.{◌≡◌, refl, Bool, true, List, [], ◌∷◌, ◌++◌, map, ℕ, ◌*◌, length}
use Rattle.std.proofs.Common.{sym, ap, ◌∙◌, append_assoc, arith, length-append}
use Rattle.seqs.specs.Lists.{each, fold, every, All}
use Rattle.seqs.specs.Tests.{and_both}

module _ {ℓ κ} {A : Type ℓ} {B : Type κ} where
  pub each_append : (f : A → List B) (l m : List A) → each f (l ++ m) ≡ each f l ++ each f m
  each_append f [] m = refl
  each_append f (a ∷ l) m = ap (λ r. f a ++ r) (each_append f l m) ∙ sym (append_assoc (f a) (each f l) (each f m))

  pub each_map : (f : A → List B) (l : List A) → each (λ r. r) (map f l) ≡ each f l
  each_map f [] = refl
  each_map f (a ∷ l) = ap (λ r. f a ++ r) (each_map f l)

  -- parts of one length
  pub each_length : (f : A → List B) (w : ℕ) → ((a : A) → length (f a) ≡ w) → (l : List A) → length (each f l) ≡ w * length l
  each_length f w h [] = omega arith
  each_length f w h (a ∷ l) = omega (arith, length-append (f a) (each f l), h a, each_length f w h l)

  pub fold_append : (f : A → B → B) (z : B) (l m : List A) → fold f z (l ++ m) ≡ fold f (fold f z l) m
  fold_append f z [] m = refl
  fold_append f z (a ∷ l) m = fold_append f (f a z) l m

module _ {ℓ} {A : Type ℓ} (p : A → Bool) where
  pub every_all : (l : List A) → every p l ≡ true → All (λ a. p a ≡ true) l
  every_all [] e = tt
  every_all (a ∷ l) e = let h = and_both (p a) (every p l) e in (h.0, every_all l h.1)

  pub all_every : (l : List A) → All (λ a. p a ≡ true) l → every p l ≡ true
  all_every [] h = refl
  all_every (a ∷ l) h = rw h.0 (all_every l h.1)
