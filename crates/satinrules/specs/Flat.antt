-- Points that are put into a slice one run after the other. Assumes nothing.
use Rattle.std.specs.Prelude.{ℕ, ◌+◌, ◌*◌, ◌≤◌, ◌≡◌, List, ◌++◌, length, Float}
use Rattle.std.proofs.Common.{arith, ap, ◌∙◌, length-append}
use Rattle.seqs.specs.Slices.{put}
use Rattle.seqs.specs.Put.{put_then, put_length}
use Rattle.geom.specs.declared.point.P.{P}
use Rattle.geom.specs.Sewing.{flat}
use Rattle.geom.specs.SewingLaws.{flat_length, flat_append}

-- m is put from k on, and then n where m ends
module _ (d d₁ : List Float) (m n : List P) (k : ℕ) (fits : k + 2 * length (m ++ n) ≤ length d) (e : d₁ ≡ put d k (flat m)) where
  sizes : k + 2 * length m + 2 * length n ≤ length d
  sizes = omega (arith, length-append m n)

  pub flat_size : length d₁ ≡ length d
  flat_size = ap length e ∙ put_length d (flat m) k (omega (arith, sizes, flat_length m))

  pub flat_room : k + 2 * length m + 2 * length n ≤ length d₁
  flat_room = omega (arith, sizes, flat_size)

  pub flat_then : (y : List Float) (at : ℕ) → at ≡ k + 2 * length m → y ≡ put d₁ at (flat n) → y ≡ put d k (flat (m ++ n))
  flat_then y at f g = put_then d d₁ y (flat m) (flat n) k at (omega (arith, sizes, flat_length m)) e (omega (arith, f, flat_length m)) g ∙ rw (flat_append m n)
