-- The stripe of places in order, and the pieces that are laid, as the later stages read them. Assumes nothing.
use Rattle.std.specs.Prelude.{ℕ, ◌*◌, ◌≤◌, ◌≡◌, Bool, List, ◌++◌, length, take, drop, Float}
use Rattle.std.proofs.Common.{arith, ap, ◌∙◌, refl, length-take-le, take_at}
use Rattle.seqs.specs.Lists.{each}
use Rattle.seqs.specs.Each.{each_length}
use Rattle.seqs.specs.Parts.{head_size, head_take}
use Rattle.rules.specs.declared.Edge.{Edge}
use Rattle.rules.specs.declared.Piece.{Piece}
use Rattle.rules.specs.PieceTable.{piece_block, row_counts}
use Rattle.sweep.specs.Swept.{waiting}
use Rattle.sweep.specs.Merge.{Waited}
use Rattle.sweep.specs.LaidLaws.{counts_length, wrote_there}
use Rattle.laying.specs.Laying.{Laid}

-- the rows over places that were put in order first: the stripe that is lent is the first e places
module _ {upward : Bool} {es : List Edge} (e : ℕ) (a : List ℕ) {b : List ℕ} (h : 2 * e ≤ length a) (v : Waited upward es e (take (2 * e) a) b) where
  sized : length b ≡ 2 * e
  sized = v.size ∙ length-take-le (2 * e) a h

  pub waited_size : length (b ++ drop (2 * e) a) ≡ length a
  waited_size = head_size a b (2 * e) h sized

  pub stripe_waits : take e (b ++ drop (2 * e) a) ≡ waiting upward es
  stripe_waits = head_take a b (2 * e) h sized e (omega arith) ∙ v.is

-- ---- what is laid, as the later stages are lent it

module _ (n : ℕ) (rows : List (List Piece)) {d d' : List Float} {a a' : List ℕ} (l : Laid n rows d d' a a') where
  pub laid_count : n ≡ length (each (λ r. r) rows)
  laid_count = omega (arith, l.pieces.count)

  take_front : {A : Type 0} (m rest : List A) (x : List A) (c : ℕ) → length m ≡ c → x ≡ m ++ rest → take c x ≡ m
  take_front m rest x c h e = ap (take c) e ∙ take_at m rest c h

  pub laid_floats : 3 * n ≤ length d → take (3 * n) d' ≡ each piece_block (each (λ r. r) rows)
  laid_floats h =
      let flat = each (λ r. r) rows in
      let u = each_length piece_block 3 (λ q. refl) flat in
      take_front (each piece_block flat) _ d' (3 * n) (omega (arith, laid_count, u)) (wrote_there 0 (each piece_block flat) l.pieces.wrote (omega (arith, laid_count, u)))

  pub laid_counts : n ≤ length a → take n a' ≡ row_counts 0 rows
  laid_counts h =
      let v = counts_length 0 rows in
      take_front (row_counts 0 rows) _ a' n (omega (arith, laid_count, v)) (wrote_there 0 (row_counts 0 rows) l.counts (omega (arith, laid_count, v)))
