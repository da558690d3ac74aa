-- A count within a cap: the count, or none where it passes the cap. Assumes nothing.
use Rattle.std.specs.Prelude.{ℕ, ◌≤◌, ◌<◌, ◌≡◌, refl, Bool, true, false, cond, leb, Option, Some, None}
use borrow.Author.Tests.{le-leb, lt-leb, leb-true, leb-false}

abbrev pub within : ℕ → ℕ → Option ℕ
within cap n = cond (leb n cap) (Some n) None

module _ (cap n : ℕ) where
  pub within_in : n ≤ cap → Some n ≡ within cap n
  within_in h = rw (le-leb n cap h)

  pub within_over : cap < n → None ≡ within cap n
  within_over h = rw (lt-leb n cap h)

  pub within_some : {v : ℕ} → Some v ≡ within cap n → (v ≡ n) × (n ≤ cap)
  within_some {v} e = go (leb n cap) refl e
    where
      go : (b : Bool) → leb n cap ≡ b → Some v ≡ cond b (Some n) None → (v ≡ n) × (n ≤ cap)
      go true q k = let z : v ≡ n = cc in (z, leb-true n cap q)
      go false q k = let z : ⊥ = cc in absurd z

  pub within_none : None ≡ within cap n → cap < n
  within_none e = go (leb n cap) refl e
    where
      go : (b : Bool) → leb n cap ≡ b → None ≡ cond b (Some n) None → cap < n
      go true q k = let z : ⊥ = cc in absurd z
      go false q k = leb-false n cap q
