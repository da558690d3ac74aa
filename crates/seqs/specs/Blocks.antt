-- A table of records in a slice, in blocks of w numbers. Assumes nothing.
use Rattle.std.specs.Prelude.{◌≡◌, length, get_or, take, drop, set}
use Rattle.std.proofs.Math.Path.{refl, ap}
use Rattle.std.proofs.Common.{◌∙◌, mul-le-mul_left, drop-cons}
use mathlib.Core.List.{List, [], ◌∷◌, ◌++◌, append_assoc}
use Prim.Native.Nat.{ℕ, zero, suc, ◌+◌, ◌*◌, ◌≤◌, ◌<◌}
use Rattle.std.proofs.Math.Nat.{mul-zero}
use native.Mathlib.Omega.{arith}
use Rattle.std.proofs.Math.ListN.{get_or-eq_default}
use Rattle.std.proofs.Math.Seq.{drop-drop, take_at, drop_at, take-set-lt, take-set-le, drop-set-lt, drop-set-add}
use Rattle.seqs.specs.Lists.{each}
use Rattle.seqs.specs.Slices.{reads_from, reads, blocks}
use Rattle.seqs.specs.Front.{next}
use Rattle.seqs.specs.Reads.{part_on, take_on}

-- a part that lies within the list, as the code reads it
module _ {ℓ} {A : Type ℓ} (l : List A) (z : A) where
  reads_from_lem : (k j n : ℕ) → k + j + n ≤ length l → take n (drop (k + j) l) ≡ reads_from l z k j n
  reads_from_lem k j zero h = refl
  reads_from_lem k j (suc n) h = let e : suc (k + j) ≡ k + suc j = omega arith in rw (drop-cons l (k + j) z (omega arith), e) (ap (λ r. get_or l (k + j) z ∷ r) (reads_from_lem k (suc j) n (omega arith)))

  pub part_reads : (k n : ℕ) → k + n ≤ length l → take n (drop k l) ≡ reads l z k n
  part_reads k zero h = refl
  part_reads k (suc n) h = rw (next l k z (omega arith)) (ap (λ r. get_or l k z ∷ r) (reads_from_lem k 1 n (omega arith)))

module _ {ℓ κ} {A : Type ℓ} {B : Type κ} (w : ℕ) (dec : List A → B) where
  pub blocks_length : (n : ℕ) (l : List A) → length (blocks w dec n l) ≡ n
  unfolding blocks
  blocks_length zero l = refl
  blocks_length (suc n) l = ap suc (blocks_length n (drop w l))

  -- a guarded read: record i, and past the end the default
  pub blocks_at : (n : ℕ) (l : List A) (i : ℕ) (z : B) → i < n → get_or (blocks w dec n l) i z ≡ dec (take w (drop (w * i) l))
  unfolding blocks
  blocks_at zero l i z h = absurd (omega arith)
  blocks_at (suc n) l zero z h = rw (mul-zero w)
  blocks_at (suc n) l (suc i) z h = let e : w + w * i ≡ w * suc i = omega arith in blocks_at n (drop w l) i z (omega arith) ∙ rw (drop-drop, e)

  pub blocks_past : (n : ℕ) (l : List A) (i : ℕ) (z : B) → n ≤ i → get_or (blocks w dec n l) i z ≡ z
  blocks_past n l i z h = get_or-eq_default (blocks w dec n l) z (omega (arith, blocks_length n l))

  pub blocks_read : (n : ℕ) (l : List A) (x : A) (i : ℕ) (z : B) → i < n → w * n ≤ length l → get_or (blocks w dec n l) i z ≡ dec (reads l x (w * i) w)
  blocks_read n l x i z h k =
      let g : w * suc i ≤ w * n = mul-le-mul_left w h in
      blocks_at n l i z h ∙ ap dec (part_reads l x (w * i) w (omega arith))

  -- the first k numbers are kept, and so is a table that lies there
  pub blocks_kept : (n k : ℕ) (l m : List A) → w * n ≤ k → take k l ≡ take k m → blocks w dec n l ≡ blocks w dec n m
  unfolding blocks
  blocks_kept zero k l m h e = refl
  blocks_kept (suc n) k l m h e =
      let s : w * suc n ≡ w + w * n = omega arith in
      rw (take_on l m w k (omega arith) e, blocks_kept n (w * n) (drop w l) (drop w m) (omega arith) (part_on l m w (w * n) k (omega arith) e))

  -- the first n records, and those behind them
  pub blocks_more : (n k : ℕ) (l : List A) → blocks w dec (n + k) l ≡ blocks w dec n l ++ blocks w dec k (drop (w * n) l)
  unfolding blocks
  blocks_more zero k l = let e : 0 + k ≡ k = omega arith in rw (e, mul-zero w)
  blocks_more (suc n) k l =
      let e : suc n + k ≡ suc (n + k) = omega arith in
      let f : w + w * n ≡ w * suc n = omega arith in
      rw e (ap (λ r. dec (take w l) ∷ r) (blocks_more n k (drop w l) ∙ rw (drop-drop, f)))

  -- a store changes one record
  pub blocks_set : (n : ℕ) (l : List A) (i j : ℕ) (v : A) → i < n → j < w → blocks w dec n (set l (w * i + j) v) ≡ set (blocks w dec n l) i (dec (set (take w (drop (w * i) l)) j v))
  unfolding blocks
  blocks_set zero l i j v h g = absurd (omega arith)
  blocks_set (suc n) l zero j v h g =
      let e : w * 0 + j ≡ j = omega arith in
      rw (e, mul-zero w, take-set-lt w l j v g, drop-set-lt w l j v g)
  blocks_set (suc n) l (suc i) j v h g =
      let e : w * suc i + j ≡ w + (w * i + j) = omega arith in
      let f : w * suc i ≡ w + w * i = omega arith in
      rw (e, f, take-set-le w l (w + (w * i + j)) v (omega arith), drop-set-add w l (w * i + j) v, ← drop-drop (w * i) w l) (ap (λ r. dec (take w l) ∷ r) (blocks_set n (drop w l) i j v (omega arith) g))

  module _ (enc : B → List A) (width : (b : B) → length (enc b) ≡ w) (back : (b : B) → dec (enc b) ≡ b) where
    -- records laid out are read back
    pub blocks_back : (bs : List B) (rest : List A) → blocks w dec (length bs) (each enc bs ++ rest) ≡ bs
    unfolding blocks
    blocks_back [] rest = refl
    blocks_back (b ∷ bs) rest =
        rw (append_assoc (enc b) (each enc bs) rest, take_at (enc b) (each enc bs ++ rest) w (width b), drop_at (enc b) (each enc bs ++ rest) w (width b), back b, blocks_back bs rest)
