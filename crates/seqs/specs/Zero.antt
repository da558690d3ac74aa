-- Laws of `replicate`, for slices that are made all zero. Assumes nothing.
use Rattle.std.specs.Prelude.{◌≡◌, refl, ◌∷◌, ℕ, zero, suc, ◌≤◌, take, replicate}
use Rattle.std.proofs.Common.{ap, arith}

module _ {ℓ} {A : Type ℓ} (z : A) where
  pub take_replicate : (n k : ℕ) → k ≤ n → take k (replicate n z) ≡ replicate k z
  take_replicate n zero h = refl
  take_replicate zero (suc k) h = absurd (omega arith)
  take_replicate (suc n) (suc k) h = ap (λ r. z ∷ r) (take_replicate n k (omega arith))
