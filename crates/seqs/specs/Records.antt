-- What a call leaves that adds records to a table. Definitions only.
use Rattle.std.specs.Prelude.{◌≡◌, List, ℕ, ◌+◌, length}
use Rattle.seqs.specs.Lists.{each}
use Rattle.seqs.specs.Slices.{Wrote}

-- record i stands at place `at i`, as the numbers `enc` says. To the n that stood there bs are added: written where there is room for
-- all of them, and counted always
pub record Added {ℓ κ} {A : Type ℓ} {B : Type κ} (at : ℕ → ℕ) (enc : B → List A) (d d' : List A) (n r : ℕ) (bs : List B) : Type ℓ where
  pub wrote : Wrote d d' (at n) (each enc bs)
  pub count : r ≡ n + length bs
