-- Two lists in order made one, and a part of a slice put in order. Definitions only.
use Rattle.std.specs.Prelude.{ℕ, ◌+◌, ◌*◌, ◌≤◌, ◌≡◌, Bool, true, false, cond, List, [], ◌∷◌, length, take, drop}
use Rattle.seqs.specs.Lists.{Strict}
use Rattle.seqs.specs.Slices.{put}
use Rattle.rules.specs.declared.Edge.{Edge}
use Rattle.sweep.specs.declared.key.Key.{Key}
use Rattle.sweep.specs.declared.key.Key.TheVariants.{Top, Bottom}
use Rattle.sweep.specs.Swept.{by, ordered, waiting}

module _ {A : Type 0} (le : A → A → Bool) where
  -- a before the first that it may stand before, and there `on` goes on
  unfoldable pub into : A → (List A → List A) → List A → List A
  into a on [] = a ∷ on []
  into a on (b ∷ m) = cond (le a b) (a ∷ on (b ∷ m)) (b ∷ into a on m)

  unfoldable pub merge_by : List A → List A → List A
  merge_by [] m = m
  merge_by (a ∷ l) m = into a (merge_by l) m

  -- whether the next of both is the first list's
  unfoldable pub left_next : List A → List A → Bool
  left_next [] m = false
  left_next (a ∷ l) [] = true
  left_next (a ∷ l) (b ∷ m) = le a b

-- ---- parts of one slice put in order: cited by theorems alone

-- what putting n places from `from` on in order asks: they stand among the first e, and as many more are free behind them
pub record Free (key : Key) (es : List Edge) (e from n : ℕ) (d : List ℕ) : Type 0 where
  pub within : from + n ≤ e
  pub room : 2 * e ≤ length d
  pub strict : Strict (by key es)

-- of the first e places, the n from `from` on are in order and the others as they were
pub record PartOrdered (key : Key) (es : List Edge) (e from n : ℕ) (d d' : List ℕ) : Type 0 where
  pub size : length d' ≡ length d
  pub is : take e d' ≡ put (take e d) from (ordered key es (take n (drop from (take e d))))

-- what putting all e places in order asks: room for them twice, and an order of their keys
pub record Waits (es : List Edge) (e : ℕ) (upward : Bool) (d : List ℕ) : Type 0 where
  pub room : 2 * e ≤ length d
  pub strict : Strict (by (cond upward Bottom Top) es)

-- what it leaves: the places in the order in which they are taken up
pub record Waited (upward : Bool) (es : List Edge) (e : ℕ) (d d' : List ℕ) : Type 0 where
  pub size : length d' ≡ length d
  pub is : take e d' ≡ waiting upward es
