-- Counts that stop one past a cap. Assumes nothing.
use Rattle.std.specs.Prelude.{◌≡◌, true, false, ◌⊎◌, ℕ, ◌+◌, ◌≤◌, ◌<◌, leb}
use Rattle.std.proofs.Common.{sym, ap, ◌∙◌, inl, inr, arith, le-leb, leb-true, leb-false}
use Rattle.std.proofs.lemmas.Bool.{lt-leb}
use Rattle.seqs.specs.Slices.{capped}
use Rattle.seqs.specs.Tests.{either}

module _ (cap : ℕ) where
  pub capped_in : (n : ℕ) → n ≤ cap → capped cap n ≡ n
  unfolding capped
  capped_in n h = rw (le-leb n cap h)

  pub capped_over : (n : ℕ) → cap < n → capped cap n ≡ cap + 1
  unfolding capped
  capped_over n h = rw (lt-leb n cap h)

  -- within the cap and exact, or past it
  pub capped_cases : (n : ℕ) → ((n ≤ cap) × (capped cap n ≡ n)) ⊎ ((cap < n) × (capped cap n ≡ cap + 1))
  capped_cases n = go (either (leb n cap))
    where
      go : (leb n cap ≡ true) ⊎ (leb n cap ≡ false) → ((n ≤ cap) × (capped cap n ≡ n)) ⊎ ((cap < n) × (capped cap n ≡ cap + 1))
      go (inl t) = let h = leb-true n cap t in inl (h, capped_in n h)
      go (inr t) = let h = leb-false n cap t in inr (h, capped_over n h)

  -- what a caller knows of a count c once it has compared it with the cap
  pub capped_exact : {c : ℕ} (n : ℕ) → c ≡ capped cap n → c ≤ cap → c ≡ n
  capped_exact n e h = elim (capped_cases n) [ inl w ↦ e ∙ w.1 | inr w ↦ absurd (omega (arith, w.1)) ]

  pub capped_past : {c : ℕ} (n : ℕ) → c ≡ capped cap n → cap < c → cap < n
  capped_past n e h = elim (capped_cases n) [ inl w ↦ absurd (omega (arith, w)) | inr w ↦ w.0 ]

  pub capped_small : (n : ℕ) → capped cap n ≤ cap + 1
  capped_small n = elim (capped_cases n) [ inl w ↦ omega (arith, w) | inr w ↦ omega (arith, w) ]

  -- a count that has stopped, or may go on, is its own
  pub capped_still : (n : ℕ) → n ≤ cap + 1 → capped cap n ≡ n
  capped_still n h = elim (capped_cases n) [ inl w ↦ w.1 | inr w ↦ w.1 ∙ omega (arith, w.0) ]

  -- counting on from a count that may have stopped
  pub capped_on : (n m : ℕ) → capped cap (capped cap n + m) ≡ capped cap (n + m)
  capped_on n m = elim (capped_cases n) [ inl w ↦ ap (λ k. capped cap (k + m)) w.1 | inr w ↦ capped_over (capped cap n + m) (omega (arith, w)) ∙ sym (capped_over (n + m) (omega (arith, w))) ]
