-- Of all the elements of a list that is dropped from, made from parts, mapped or read; and of lists that are mapped, sorted ones too. Assumes nothing.
use Rattle.std.specs.Prelude.{◌≡◌, refl, ℕ, zero, suc, drop, get_or}
use Rattle.std.proofs.Common.{ap, ◌∙◌}
use mathlib.Core.List.Permᴰ
use mathlib.Core.List.{List, [], ◌∷◌, ◌++◌, map, reverse, reverse-cons, map-append}
use Rattle.seqs.specs.Lists.{each, All, Sorted}
use Rattle.seqs.specs.All.{all_map, all_append, all_perm}

module _ {A : Type 0} where
  pub all_drop : (Q : A → Type 0) (n : ℕ) (l : List A) → All Q l → All Q (drop n l)
  all_drop Q zero l h = h
  all_drop Q (suc n) [] h = tt
  all_drop Q (suc n) (a ∷ l) h = all_drop Q n l h.1

  pub all_both : (Q R : A → Type 0) (l : List A) → All Q l → All R l → All (λ a. Q a × R a) l
  all_both Q R [] h k = tt
  all_both Q R (a ∷ l) h k = ((h.0, k.0), all_both Q R l h.1 k.1)

  pub all_reverse : (Q : A → Type 0) (l : List A) → All Q l → All Q (reverse l)
  all_reverse Q l h = all_perm Q (Permᴰ.symm (Permᴰ.reverse l)) h

  -- with the default, at every place
  pub all_get : (Q : A → Type 0) (z : A) → Q z → (l : List A) → All Q l → (i : ℕ) → Q (get_or l i z)
  all_get Q z h [] k i = h
  all_get Q z h (a ∷ l) k zero = k.0
  all_get Q z h (a ∷ l) k (suc i) = all_get Q z h l k.1 i

  module _ {B : Type 0} (Q : A → Type 0) (R : B → Type 0) where
    pub all_mapped : (f : A → B) → ((a : A) → Q a → R (f a)) → (l : List A) → All Q l → All R (map f l)
    all_mapped f h [] k = tt
    all_mapped f h (a ∷ l) k = (h a k.0, all_mapped f h l k.1)

    pub all_unmapped : (f : A → B) → ((a : A) → R (f a) → Q a) → (l : List A) → All R (map f l) → All Q l
    all_unmapped f h [] k = tt
    all_unmapped f h (a ∷ l) k = (h a k.0, all_unmapped f h l k.1)

    pub all_parts : (f : A → List B) → ((a : A) → Q a → All R (f a)) → (l : List A) → All Q l → All R (each f l)
    all_parts f h [] k = tt
    all_parts f h (a ∷ l) k = all_append R (f a) (each f l) (h a k.0) (all_parts f h l k.1)

  -- every two, with what holds of each
  pub sorted_both : (Q : A → Type 0) (R : A → A → Type 0) (l : List A) → All Q l → Sorted R l → Sorted (λ a b. Q a × Q b × R a b) l
  sorted_both Q R [] h k = tt
  sorted_both Q R (a ∷ l) h k = (all_map (λ b w. (h.0, w.0, w.1)) l (all_both Q (R a) l h.1 k.0), sorted_both Q R l h.1 k.1)

  pub sorted_mapped : {B : Type 0} (R : A → A → Type 0) (S : B → B → Type 0) (f : A → B) → ((a b : A) → R a b → S (f a) (f b)) → (l : List A) → Sorted R l → Sorted S (map f l)
  sorted_mapped R S f h [] k = tt
  sorted_mapped R S f h (a ∷ l) k = (all_mapped (R a) (S (f a)) f (h a) l k.0, sorted_mapped R S f h l k.1)

module _ {A B : Type 0} (f : A → B) where
  pub map_reverse : (l : List A) → map f (reverse l) ≡ reverse (map f l)
  map_reverse [] = refl
  map_reverse (a ∷ l) = rw (reverse-cons a l, reverse-cons (f a) (map f l)) (map-append f (reverse l) (a ∷ []) ∙ ap (λ r. r ++ (f a ∷ [])) (map_reverse l))
