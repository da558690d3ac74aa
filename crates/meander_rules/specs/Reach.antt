-- What a walk can reach, and what the walks have seen. Definitions only.
use Rattle.std.specs.Prelude.{ℕ, ◌≡◌, Bool, true, false}
use mathlib.Core.List.{List, [], Memᴰ}
use Rattle.seqs.specs.Lists.{upto, fold}
use Rattle.meander_rules.specs.declared.Lattice.{Lattice}
use Rattle.meander_rules.specs.Meander.{Walks, neighbours, is_free, start_at}

-- point k is inside: it was free at first
abbrev pub Inside : List ℕ → ℕ → Type 0
Inside first k = is_free first k ≡ true

-- an inside point has been visited: it isn't free any more
abbrev pub Visited : List ℕ → ℕ → Type 0
Visited free k = is_free free k ≡ false

module _ (g : Lattice) (link : ℕ → ℕ → Bool) (first : List ℕ) where
  -- an allowed link leads from k to an inside neighbour n
  pub record Link (k n : ℕ) : Type 0 where
    pub beside : Memᴰ n (neighbours g k)
    pub in_it : Inside first n
    pub allowed : link k n ≡ true

  -- n can be reached from the start over allowed links
  pub data Reached (start : ℕ) : ℕ → Type 0 where
    at_start : Reached start start
    over : {k n : ℕ} → Reached start k → Link k n → Reached start n

  -- the walks before the one from this start
  abbrev pub before : ℕ → ℕ → Walks
  before seed start = fold (start_at g link) (record { paths = []; free = first; seed = seed }) (upto 0 start)
