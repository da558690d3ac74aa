-- The first way that is open, found one after the other. Assumes nothing.
use Rattle.std.specs.Prelude.{ℕ, zero, suc, ◌+◌, ◌≤◌, ◌<◌, ◌≡◌, refl, Bool, true, false, ◌&&◌, List, [], ◌∷◌, length, drop, get_or}
use Rattle.std.proofs.Common.{arith, ◌∙◌, lt-ltb, le-ltb}
use Rattle.std.proofs.Math.Path.{sym}
use Rattle.seqs.specs.Front.{next, none}
use Rattle.seqs.specs.Tests.{clash}
use Rattle.meander_rules.specs.Meander.{is_free, open_way}
use Rattle.wander.specs.Walking.{found}

-- a free point is a point of the grid
pub free_low : (l : List ℕ) (k : ℕ) → is_free l k ≡ true → k < length l
unfolding is_free
free_low [] k h = clash h refl
free_low (a ∷ l) zero h = omega arith
free_low (a ∷ l) (suc k) h = let ih = free_low l k h in omega (arith, ih)

pub found_at : (n k : ℕ) → k < n → found n k ≡ k ∷ []
found_at n k h = rw (lt-ltb k n h)

pub found_none : (n k : ℕ) → n ≤ k → found n k ≡ []
found_none n k h = rw (le-ltb k n h)

module _ (link : ℕ → ℕ → Bool) (free : List ℕ) (here : ℕ) (ways : List ℕ) (i : ℕ) where
  pub way_next : i < length ways → {t : Bool} → t ≡ (is_free free (get_or ways i 0) && link here (get_or ways i 0)) → t ≡ false → open_way link free here (drop i ways) ≡ open_way link free here (drop (i + 1) ways)
  unfolding open_way
  way_next h e f = rw (next ways i 0 h, sym e ∙ f)

  pub way_found : i < length ways → {t : Bool} → t ≡ (is_free free (get_or ways i 0) && link here (get_or ways i 0)) → t ≡ true → open_way link free here (drop i ways) ≡ get_or ways i 0 ∷ []
  unfolding open_way
  way_found h e f = rw (next ways i 0 h, sym e ∙ f)

  pub way_none : length ways ≤ i → open_way link free here (drop i ways) ≡ []
  unfolding open_way
  way_none h = rw (none ways i h)
