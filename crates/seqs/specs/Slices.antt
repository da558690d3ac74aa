-- What a call leaves in a slice, and what a table in a slice says. Definitions only.
use Rattle.std.specs.Prelude.{◌≡◌, cond, List, [], ◌∷◌, ◌++◌, ℕ, zero, suc, ◌+◌, ◌≤◌, leb, length, take, drop, set, get_or}

-- a count that stops one past the cap
unfoldable pub capped : ℕ → ℕ → ℕ
capped cap n = cond (leb n cap) n (cap + 1)

module _ {ℓ} {A : Type ℓ} where
  -- d' is d with m from k on, where there is room for it; where there is none, it is only as long as d, and d up to k
  pub record Wrote (d d' : List A) (k : ℕ) (m : List A) : Type ℓ where
    pub size : length d' ≡ length d
    pub kept : take k d' ≡ take k d
    pub is : k + length m ≤ length d → d' ≡ (take k d ++ m) ++ drop (k + length m) d

  -- d with m from k on
  abbrev pub put : List A → ℕ → List A → List A
  put d k m = (take k d ++ m) ++ drop (length (take k d ++ m)) d

  abbrev pub Put : List A → List A → ℕ → List A → Type ℓ
  Put d d' k m = d' ≡ put d k m

  -- m stored at k, k + 1, ..: on a list that is written out, the stores themselves
  abbrev pub stores_from : List A → ℕ → ℕ → List A → List A
  stores_from d k j [] = d
  stores_from d k j (a ∷ m) = stores_from (set d (k + j) a) k (suc j) m

  abbrev pub stores : List A → ℕ → List A → List A
  stores d k [] = d
  stores d k (a ∷ m) = stores_from (set d k a) k 1 m

  -- n read at k, k + 1, ..: where n is a numeral, the reads themselves
  abbrev pub reads_from : List A → A → ℕ → ℕ → ℕ → List A
  reads_from d z k j zero = []
  reads_from d z k j (suc n) = get_or d (k + j) z ∷ reads_from d z k (suc j) n

  abbrev pub reads : List A → A → ℕ → ℕ → List A
  reads d z k zero = []
  reads d z k (suc n) = get_or d k z ∷ reads_from d z k 1 n

-- a table of n records in blocks of w numbers, each read by `dec`
unfoldable pub blocks {ℓ κ} : {A : Type ℓ} {B : Type κ} → ℕ → (List A → B) → ℕ → List A → List B
blocks w dec zero l = []
blocks w dec (suc n) l = dec (take w l) ∷ blocks w dec n (drop w l)
