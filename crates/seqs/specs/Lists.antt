-- Functions on lists, and what can be said of a list. Definitions only.
-- A permutation is the kit's `List.Permᴰ`, a chain of neighbours the kit's `IsChain`, a member the kit's `List-as-Memᴰ` (mathlib.Core.List).
use Rattle.std.specs.Prelude.{◌≡◌, Bool, true, false, ◌&&◌, cond, ℕ, zero, suc, ◌+◌, leb}
use mathlib.Core.List.{List, [], ◌∷◌, ◌++◌, Permᴰ}

-- i, i + 1, .., n of them
abbrev pub upto : ℕ → ℕ → List ℕ
upto i zero = []
upto i (suc n) = i ∷ upto (i + 1) n

module _ {ℓ} {A : Type ℓ} where
  -- with a in front where the test held
  abbrev pub keep_if : Bool → A → List A → List A
  keep_if true a l = a ∷ l
  keep_if false a l = l

  -- those that pass the test
  abbrev pub sift : (A → Bool) → List A → List A
  sift p [] = []
  sift p (a ∷ l) = keep_if (p a) a (sift p l)

  -- the first ones that pass, and the rest from the first that does not
  abbrev pub take_while : (A → Bool) → List A → List A
  take_while p [] = []
  take_while p (a ∷ l) = cond (p a) (a ∷ take_while p l) []

  abbrev pub drop_while : (A → Bool) → List A → List A
  drop_while p [] = []
  drop_while p (a ∷ l) = cond (p a) (drop_while p l) (a ∷ l)

  -- whether all pass
  abbrev pub every : (A → Bool) → List A → Bool
  every p [] = true
  every p (a ∷ l) = p a && every p l

module _ {ℓ κ} {A : Type ℓ} {B : Type κ} where
  -- all the parts in order
  abbrev pub each : (A → List B) → List A → List B
  each f [] = []
  each f (a ∷ l) = f a ++ each f l

  -- f over the list, the first element first
  abbrev pub fold : (A → B → B) → B → List A → B
  fold f z [] = z
  fold f z (a ∷ l) = fold f (f a z) l

-- ---- sorting by a test `le a b`, that a comes before b or is level with it

module _ {ℓ} {A : Type ℓ} where
  -- before the first that it may stand before
  abbrev pub insert_by : (A → A → Bool) → A → List A → List A
  insert_by le a [] = a ∷ []
  insert_by le a (b ∷ l) = cond (le a b) (a ∷ b ∷ l) (b ∷ insert_by le a l)

  -- each put into the sort of those behind it
  abbrev pub sort_by : (A → A → Bool) → List A → List A
  sort_by le [] = []
  sort_by le (a ∷ l) = insert_by le a (sort_by le l)

  -- the same found from the back: behind the last that it may not stand before
  abbrev pub insert_back : (A → A → Bool) → A → List A → List A
  insert_back le a [] = a ∷ []
  insert_back le a (b ∷ l) = cond (le a b && every (le a) l) (a ∷ b ∷ l) (b ∷ insert_back le a l)

-- by keys, and where no key is before the other by place
abbrev pub by_key {ℓ} : {B : Type ℓ} → (B → B → Bool) → (ℕ → B) → ℕ → ℕ → Bool
by_key before key i j = cond (before (key i) (key j)) true (cond (before (key j) (key i)) false (leb i j))

-- a sweep over rows: a row holds those of the row before that go on, and those that wait, from the first on, once they have started
abbrev pub sweep_by {ℓ κ} : {A : Type ℓ} {Y : Type κ} → (Y → A → Bool) → (Y → A → Bool) → (Y → List A → List A) → List A → List A → List Y → List (List A)
sweep_by starts lives order active waiting [] = []
sweep_by starts lives order active waiting (y ∷ ys) =
    let row = order y (sift (lives y) active ++ sift (lives y) (take_while (starts y) waiting)) in
    row ∷ sweep_by starts lives order row (drop_while (starts y) waiting) ys

-- ---- what holds of a list

module _ {ℓ κ} {A : Type ℓ} where
  -- P of each
  abbrev pub All : (A → Type κ) → List A → Type κ
  All P [] = Unit {κ}
  All P (a ∷ l) = P a × All P l

  -- R of every two, the earlier first
  abbrev pub Sorted : (A → A → Type κ) → List A → Type κ
  Sorted R [] = Unit {κ}
  Sorted R (a ∷ l) = All (R a) l × Sorted R l

module _ {ℓ} {A : Type ℓ} where
  -- no element stands before one that it may not stand before
  abbrev pub Ordered : (A → A → Bool) → List A → Type 0
  Ordered le l = Sorted (λ a b. le a b ≡ true) l

  -- of two, one may stand before the other, and both ways only where they are one
  pub record Strict (le : A → A → Bool) : Type ℓ where
    pub total : (a b : A) → le a b ≡ false → le b a ≡ true
    pub trans : (a b c : A) → le a b ≡ true → le b c ≡ true → le a c ≡ true
    pub same : (a b : A) → le a b ≡ true → le b a ≡ true → a ≡ b

  -- f puts a list in an order that doesn't depend on how its elements came
  pub record Sorts (f : List A → List A) : Type ℓ where
    pub perm : (l : List A) → Permᴰ (f l) l
    pub same : {l m : List A} → Permᴰ l m → f l ≡ f m

-- `before` orders these keys: never both ways, transitive, and neither way only where two keys are one
pub record Keyed {ℓ} {B : Type ℓ} (before : B → B → Bool) (key : ℕ → B) : Type ℓ where
  pub one_way : (i j : ℕ) → before (key i) (key j) ≡ true → before (key j) (key i) ≡ false
  pub trans : (i j k : ℕ) → before (key i) (key j) ≡ true → before (key j) (key k) ≡ true → before (key i) (key k) ≡ true
  pub level : (i j : ℕ) → before (key i) (key j) ≡ false → before (key j) (key i) ≡ false → key i ≡ key j
