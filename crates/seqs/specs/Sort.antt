-- Sorting. A strict order has one ordered list of each collection, so every way to sort gives the definition's list. Assumes nothing.
use Rattle.std.specs.Prelude.{◌≡◌, refl, Bool, true, false, ◌&&◌, cond, suc, length}
use Rattle.std.proofs.Common.{sym, ap, ◌∙◌, inl, inr}
use mathlib.Core.List.Permᴰ
use mathlib.Core.List.{List, [], ◌∷◌, ◌++◌, append-nil, Permᴰ}
use Rattle.seqs.specs.Lists.{every, fold, insert_by, insert_back, sort_by, All, Ordered, Strict, Sorts}
use Rattle.seqs.specs.Tests.{either, clash, refute}
use Rattle.seqs.specs.All.{all_map, all_perm}
use Rattle.seqs.specs.Each.{all_every}

module _ {ℓ} {A : Type ℓ} where
  pub perm_length : {l m : List A} → Permᴰ l m → length l ≡ length m
  perm_length Permᴰ.nil = refl
  perm_length (Permᴰ.cons e p) = ap suc (perm_length p)
  perm_length (Permᴰ.swap e f) = refl
  perm_length (Permᴰ.trans p q) = perm_length p ∙ perm_length q

  -- ---- whatever the test says, a sort only reorders

  put : (t : Bool) (a b : A) {l m : List A} → Permᴰ m (a ∷ l) → Permᴰ (cond t (a ∷ b ∷ l) (b ∷ m)) (a ∷ b ∷ l)
  put true a b {l} h = Permᴰ.refl (a ∷ b ∷ l)
  put false a b h = Permᴰ.trans (Permᴰ.cons refl h) (Permᴰ.swap refl refl)

  pub insert_perm : (le : A → A → Bool) (a : A) (l : List A) → Permᴰ (insert_by le a l) (a ∷ l)
  insert_perm le a [] = Permᴰ.refl (a ∷ [])
  insert_perm le a (b ∷ l) = put (le a b) a b (insert_perm le a l)

  pub sort_perm : (le : A → A → Bool) (l : List A) → Permᴰ (sort_by le l) l
  sort_perm le [] = Permᴰ.nil
  sort_perm le (a ∷ l) = Permᴰ.trans (insert_perm le a (sort_by le l)) (Permᴰ.cons refl (sort_perm le l))

  pub back_perm : (le : A → A → Bool) (a : A) (l : List A) → Permᴰ (insert_back le a l) (a ∷ l)
  back_perm le a [] = Permᴰ.refl (a ∷ [])
  back_perm le a (b ∷ l) = put (le a b && every (le a) l) a b (back_perm le a l)

  pub backs_perm : (le : A → A → Bool) (s l : List A) → Permᴰ (fold (insert_back le) s l) (l ++ s)
  backs_perm le s [] = Permᴰ.refl s
  backs_perm le s (a ∷ l) = Permᴰ.trans (backs_perm le (insert_back le a s) l) (Permᴰ.trans (Permᴰ.append_left l (back_perm le a s)) (Permᴰ.middle a l s))

-- ---- a total and transitive test orders

module _ {ℓ} {A : Type ℓ} (le : A → A → Bool) (total : (a b : A) → le a b ≡ false → le b a ≡ true) (trans : (a b c : A) → le a b ≡ true → le b c ≡ true → le a c ≡ true) where
  pub insert_ordered : (a : A) (l : List A) → Ordered le l → Ordered le (insert_by le a l)
  insert_ordered a [] h = (tt, tt)
  insert_ordered a (b ∷ l) h = elim (either (le a b)) [
    | inl e ↦ rw e ((e, all_map (λ c t. trans a b c e t) l h.0), h)
    | inr e ↦ rw e (all_perm (λ c. le b c ≡ true) (Permᴰ.symm (insert_perm le a l)) (total a b e, h.0), insert_ordered a l h.1)
  ]

  pub sort_ordered : (l : List A) → Ordered le (sort_by le l)
  sort_ordered [] = tt
  sort_ordered (a ∷ l) = insert_ordered a (sort_by le l) (sort_ordered l)

-- ---- a strict order

module _ {ℓ} {A : Type ℓ} (le : A → A → Bool) (o : Strict le) where
  two : (a b : A) (l : List A) (s t : Bool) → (s ≡ false → t ≡ true) → (s ≡ true → t ≡ true → a ≡ b) → cond s (a ∷ b ∷ l) (b ∷ a ∷ l) ≡ cond t (b ∷ a ∷ l) (a ∷ b ∷ l)
  two a b l true true f g = let e : a ≡ b = g refl refl in cc
  two a b l true false f g = refl
  two a b l false true f g = refl
  two a b l false false f g = clash (f refl) refl

  ahead : (a b c : A) → le a c ≡ true → le b c ≡ false → le b a ≡ false
  ahead a b c p q = refute (le b a) (λ e. clash (o.trans b a c e p) q)

  insert_comm : (a b : A) (l : List A) → insert_by le a (insert_by le b l) ≡ insert_by le b (insert_by le a l)
  insert_comm a b [] = two a b [] (le a b) (le b a) (o.total a b) (o.same a b)
  insert_comm a b (c ∷ l) = elim (either (le a c)) [
    | inl p ↦ elim (either (le b c)) [
      | inl q ↦ simp (p, q) (two a b (c ∷ l) (le a b) (le b a) (o.total a b) (o.same a b))
      | inr q ↦ simp (p, q, ahead a b c p q)
    ]
    | inr p ↦ elim (either (le b c)) [
      | inl q ↦ simp (p, q, ahead b a c q p)
      | inr q ↦ simp (p, q) (ap (λ r. c ∷ r) (insert_comm a b l))
    ]
  ]

  -- the order in which the elements came doesn't matter
  pub sort_same : {l m : List A} → Permᴰ l m → sort_by le l ≡ sort_by le m
  sort_same Permᴰ.nil = refl
  sort_same (Permᴰ.cons {b = b} e h) = rw e (ap (insert_by le b) (sort_same h))
  sort_same (Permᴰ.swap {a} {b} {l = l} e f) = rw (← e, ← f) (insert_comm a b (sort_by le l))
  sort_same (Permᴰ.trans h k) = sort_same h ∙ sort_same k

  -- an ordered list is its own sort
  pub sort_of_ordered : (l : List A) → Ordered le l → sort_by le l ≡ l
  sort_of_ordered [] h = refl
  sort_of_ordered (a ∷ l) h = ap (insert_by le a) (sort_of_ordered l h.1) ∙ first l h.0
    where
      first : (l : List A) → All (λ b. le a b ≡ true) l → insert_by le a l ≡ a ∷ l
      first [] k = refl
      first (b ∷ l) k = rw k.0

  -- so of every ordered list of the same elements
  pub ordered_sort : {l : List A} (m : List A) → Ordered le m → Permᴰ m l → m ≡ sort_by le l
  ordered_sort m h p = sym (sort_of_ordered m h) ∙ sort_same p

  -- insertion from the back
  pub back_is : (a : A) (l : List A) → Ordered le l → insert_back le a l ≡ insert_by le a l
  back_is a [] h = refl
  back_is a (b ∷ l) h = elim (either (le a b)) [
    | inl e ↦ rw (e, all_every (le a) l (all_map (λ c t. o.trans a b c e t) l h.0))
    | inr e ↦ rw e (ap (λ r. b ∷ r) (back_is a l h.1))
  ]

  pub backs_are : (s l : List A) → Ordered le s → fold (insert_back le) s l ≡ sort_by le (l ++ s)
  backs_are s [] h = sym (sort_of_ordered s h)
  backs_are s (a ∷ l) h =
      let k : Ordered le (insert_back le a s) = rw (back_is a s h) (insert_ordered le o.total o.trans a s h) in
      backs_are (insert_back le a s) l k ∙ sort_same (Permᴰ.trans (Permᴰ.append_left l (back_perm le a s)) (Permᴰ.middle a l s))

  pub backs_sort : (l : List A) → fold (insert_back le) [] l ≡ sort_by le l
  backs_sort l = backs_are [] l tt ∙ ap (sort_by le) (append-nil l)

  pub sort_sorts : Sorts (sort_by le)
  sort_sorts = record { perm = sort_perm le; same = sort_same }

  pub backs_sorts : Sorts (λ l. fold (insert_back le) [] l)
  backs_sorts = record { perm = λ l. rw append-nil at (backs_perm le [] l); same = λ {l} {m} p. backs_sort l ∙ sort_same p ∙ sym (backs_sort m) }
