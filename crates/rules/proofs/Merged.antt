-- What holds of crossings holds of them merged: where they are, their order, how many. Assumes nothing.
use Rattle.std.specs.Prelude.{Bool, true, false, cond, suc, ◌≤◌, ℤ, ◌+ℤ◌, length, Float}
use mathlib.Core.List.{List, [], ◌∷◌}
use Rattle.std.proofs.Common.{arith}
use Rattle.seqs.specs.Lists.{All, Sorted}
use Rattle.rules.specs.Fill.{same_x, merged_from, merged}

pub either : (P : List (Float × ℤ) → Type 0) (b : Bool) (l m : List (Float × ℤ)) → P l → P m → P (cond b l m)
either P true l m h k = h
either P false l m h k = k

module _ (P : Float → Type 0) where
  from_all : (x : Float) (d : ℤ) (cs : List (Float × ℤ)) → P x → All (λ c. P c.0) cs → All (λ c. P c.0) (merged_from x d cs)
  unfolding merged_from
  from_all x d [] h k = (h, tt)
  from_all x d (c ∷ cs) h k =
      either (All (λ c. P c.0)) (same_x x c.0) (merged_from x (d +ℤ c.1) cs) ((x, d) ∷ merged_from c.0 c.1 cs)
      (from_all x (d +ℤ c.1) cs h k.1) (h, from_all c.0 c.1 cs k.0 k.1)

  pub merged_all : (cs : List (Float × ℤ)) → All (λ c. P c.0) cs → All (λ c. P c.0) (merged cs)
  unfolding merged
  merged_all [] k = tt
  merged_all (c ∷ cs) k = from_all c.0 c.1 cs k.0 k.1

module _ (R : Float → Float → Type 0) where
  from_sorted : (x : Float) (d : ℤ) (cs : List (Float × ℤ)) → All (λ c. R x c.0) cs → Sorted (λ c e. R c.0 e.0) cs → Sorted (λ c e. R c.0 e.0) (merged_from x d cs)
  unfolding merged_from
  from_sorted x d [] h k = (tt, tt)
  from_sorted x d (c ∷ cs) h k =
      either (Sorted (λ c e. R c.0 e.0)) (same_x x c.0) (merged_from x (d +ℤ c.1) cs) ((x, d) ∷ merged_from c.0 c.1 cs)
      (from_sorted x (d +ℤ c.1) cs h.1 k.1) (from_all (R x) c.0 c.1 cs h.0 h.1, from_sorted c.0 c.1 cs k.0 k.1)

  pub merged_sorted : (cs : List (Float × ℤ)) → Sorted (λ c e. R c.0 e.0) cs → Sorted (λ c e. R c.0 e.0) (merged cs)
  unfolding merged
  merged_sorted [] k = tt
  merged_sorted (c ∷ cs) k = from_sorted c.0 c.1 cs k.0 k.1

from_length : (x : Float) (d : ℤ) (cs : List (Float × ℤ)) → length (merged_from x d cs) ≤ suc (length cs)
unfolding merged_from
from_length x d [] = omega arith
from_length x d (c ∷ cs) =
    let a = from_length x (d +ℤ c.1) cs in
    let b = from_length c.0 c.1 cs in
    either (λ l. length l ≤ suc (suc (length cs))) (same_x x c.0) (merged_from x (d +ℤ c.1) cs) ((x, d) ∷ merged_from c.0 c.1 cs) (omega (arith, a)) (omega (arith, b))

pub merged_length : (cs : List (Float × ℤ)) → length (merged cs) ≤ length cs
unfolding merged
merged_length [] = omega arith
merged_length (c ∷ cs) = from_length c.0 c.1 cs
