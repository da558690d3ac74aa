-- What it says of a place that a sheet stands there, or none. Assumes nothing.
use Rattle.std.proofs.Common.{◌≡◌, refl, sym, ℕ, ◌+◌, ◌<◌, ◌≤◌, true, false, List, length, drop, ltb, arith}
use Rattle.std.specs.Prelude.{Option, None, Some, MatchOption}
use Rattle.std.specs.Option.{is_some}
use borrow.Author.Tests.{lt-ltb, le-ltb}
use Rattle.seqs.specs.Tests.{clash}
use Rattle.book.specs.Book.{size}

-- what `size_at` says
abbrev pub Told : List ℕ → ℕ → Option ℕ → Type 0
Told s at r = MatchOption r (size (drop at s) ≡ 0) (λ n. (n ≡ size (drop at s)) × (0 < n) × (at + n ≤ length s))

module _ (s : List ℕ) (at : ℕ) where
  pub sized : (r : Option ℕ) → Told s at r → is_some r ≡ true → (0 < size (drop at s)) × (at + size (drop at s) ≤ length s)
  sized None m e = clash e refl
  sized (Some n) m e = (omega (arith, m.0, m.1), omega (arith, m.0, m.2))

  pub unsized : (r : Option ℕ) → Told s at r → is_some r ≡ false → size (drop at s) ≡ 0
  unsized None m e = m
  unsized (Some n) m e = clash refl e

  pub stands_there : (r : Option ℕ) → Told s at r → is_some r ≡ ltb 0 (size (drop at s))
  stands_there None m = sym (le-ltb 0 (size (drop at s)) (omega (arith, m)))
  stands_there (Some n) m = sym (lt-ltb 0 (size (drop at s)) (omega (arith, m.0, m.1)))
