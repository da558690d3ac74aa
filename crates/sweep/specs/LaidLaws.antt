-- What a sweep laid down is read back piece by piece. Assumes nothing.
use Prim.Native.Nat.{ℕ, zero, suc, ◌+◌, ◌-◌, ◌*◌, ◌≤◌, ◌<◌}
use Rattle.std.proofs.Common.{arith, sym, ◌∙◌, length-take-le, drop_at}
use Rattle.std.specs.Prelude.{◌≡◌, refl, Bool, ◌⊎◌, ℤ, length, take, drop, replicate, Float}
use Rattle.std.proofs.Math.Path.{ap}
use Rattle.std.proofs.Math.Logic.{inl, inr}
use mathlib.Core.List.{List, [], ◌∷◌, ◌++◌, map, append_assoc}
use Rattle.std.proofs.Math.ListN.{get_or, length-append, length-replicate, get_or-replicate, get_or-append}
use Rattle.std.proofs.Math.Seq.{get_or-append-add}
use Rattle.std.specs.Float.{nan}
use Rattle.seqs.specs.Lists.{each, drop_while, upto, All}
use Rattle.seqs.specs.All.{all_at}
use Rattle.seqs.specs.Slices.{Wrote}
use Rattle.outlines.specs.declared.rule.FillRule.{FillRule}
use Rattle.rules.specs.declared.Settings.{Settings}
use Rattle.rules.specs.declared.Edge.{Edge}
use Rattle.rules.specs.declared.Piece.{Piece}
use Rattle.rules.specs.Fill.{row_at, pieces_at}
use Rattle.rules.specs.PieceTable.{piece_block, row_counts}
use Rattle.edges.specs.declared.rows.Rows.{Rows}
use Rattle.edges.specs.Span.{row_number}
use Rattle.sweep.specs.declared.piece.Span.{Span}
use Rattle.sweep.specs.Swept.{cuts, cut_at, enters, places, numbers, swept, Laid}
use Rattle.sweep.specs.SweptLaws.{as_piece, cuts_pieces}

abbrev flat : List (List Piece) → List Piece
flat rows = each (λ r. r) rows

pub counts_length : (r : ℕ) (rows : List (List Piece)) → length (row_counts r rows) ≡ length (flat rows)
unfolding row_counts
counts_length r [] = refl
counts_length r (row ∷ rows) = omega (arith, length-append (replicate (length row) r) (row_counts (r + 1) rows), length-replicate (length row) r, length-append row (flat rows), counts_length (r + 1) rows)

-- what was written where there is room
pub wrote_there : {A : Type 0} {d d' : List A} (k : ℕ) (m : List A) → Wrote d d' k m → k + length m ≤ length d → drop k d' ≡ m ++ drop (k + length m) d
wrote_there {d = d} {d' = d'} k m w h = ap (drop k) (w.is h ∙ append_assoc (take k d) m (drop (k + length m) d)) ∙ drop_at (take k d) (m ++ drop (k + length m) d) k (length-take-le k d (omega arith))

pub record Read (d : List Float) (k : ℕ) (p : Piece) : Type 0 where
  pub y : get_or d k nan ≡ p.y
  pub xa : get_or d (k + 1) nan ≡ p.xa
  pub xb : get_or d (k + 2) nan ≡ p.xb

pub block_at : (ps : List Piece) (rest : List Float) (i : ℕ) (z : Piece) → i < length ps → Read (each piece_block ps ++ rest) (3 * i) (get_or ps i z)
block_at [] rest i z h = absurd (omega arith)
block_at (p ∷ ps) rest zero z h = record { y = refl; xa = refl; xb = refl }
block_at (p ∷ ps) rest (suc i) z h =
    let r = block_at ps rest i z (omega arith) in
    let a : 3 * suc i ≡ suc (suc (suc (3 * i))) = omega arith in
    let b : 3 * suc i + 1 ≡ suc (suc (suc (3 * i + 1))) = omega arith in
    let c : 3 * suc i + 2 ≡ suc (suc (suc (3 * i + 2))) = omega arith in
    record { y = rw a r.y; xa = rw b r.xa; xb = rw c r.xb }

module _ (e n : ℕ) (rows : List (List Piece)) {d d' : List Float} {a a' : List ℕ} (l : Laid e n rows d d' a a') where
  pub laid_count : n ≡ length (flat rows)
  laid_count = omega (arith, l.pieces.count)

-- ---- a piece's row number, by the count of its row

row_numbers_lem : (rule : FillRule) (g : Settings) (es : List Edge) (k : ℤ) (l : List ℕ) → All (λ p. p.k ≡ k) (pieces_at rule g es k l)
row_numbers_lem rule g es k l = rw (cuts_pieces rule g k es l) (go (cuts (cut_at rule g k) es l))
  where
    go : (ps : List Span) → All (λ p. p.k ≡ k) (map (as_piece rule g k) ps)
    go [] = tt
    go (p ∷ ps) = (refl, go ps)

split : (i n : ℕ) → (i < n) ⊎ ((j : ℕ) × (i ≡ n + j))
split i zero = inr (i, omega arith)
split zero (suc n) = inl (omega arith)
split (suc i) (suc n) = elim (split i n) [ inl h ↦ inl (omega arith) | inr h ↦ inr (h.0, omega (arith, h.1)) ]

module _ (w : Rows) (upward : Bool) (rule : FillRule) (g : Settings) (es : List Edge) (z : Piece) where
  from_row : (m r : ℕ) (active wait : List ℕ) (i : ℕ) → i < length (flat (swept upward rule g es active wait (map (row_number w upward) (upto r m))))
      → (get_or (flat (swept upward rule g es active wait (map (row_number w upward) (upto r m)))) i z).k ≡ row_number w upward (get_or (row_counts r (swept upward rule g es active wait (map (row_number w upward) (upto r m)))) i 0)
  unfolding swept row_counts
  from_row zero r active wait i h = absurd (omega arith)
  from_row (suc m) r active wait i h =
      let k = row_number w upward r in
      let now = places upward es (row_at g k) active wait in
      let row = pieces_at rule g es k now in
      let rest = swept upward rule g es now (drop_while (enters upward es (row_at g k)) wait) (map (row_number w upward) (upto (r + 1) m)) in
      let n = length-replicate (length row) r in
      elim (split i (length row)) [
        | inl t ↦
            ap (λ p. p.k) (get_or-append row (flat rest) z i t) ∙ all_at (λ p. p.k ≡ k) row i z t (row_numbers_lem rule g es k now)
            ∙ ap (row_number w upward) (sym (get_or-append (replicate (length row) r) (row_counts (r + 1) rest) 0 i (omega arith) ∙ get_or-replicate (length row) i r 0 t))
        | inr t ↦
            let j = t.0 in
            let a : get_or (row ++ flat rest) i z ≡ get_or (flat rest) j z = ap (λ q. get_or (row ++ flat rest) q z) t.1 ∙ get_or-append-add row (flat rest) j z in
            let b : get_or (replicate (length row) r ++ row_counts (r + 1) rest) i 0 ≡ get_or (row_counts (r + 1) rest) j 0 =
            ap (λ q. get_or (replicate (length row) r ++ row_counts (r + 1) rest) q 0) (t.1 ∙ ap (λ q. q + j) (sym n)) ∙ get_or-append-add (replicate (length row) r) (row_counts (r + 1) rest) j 0 in
            ap (λ p. p.k) a ∙ from_row m (r + 1) now (drop_while (enters upward es (row_at g k)) wait) j (omega (arith, t.1, length-append row (flat rest))) ∙ ap (row_number w upward) (sym b)
      ]

  pub piece_number : (wait : List ℕ) (i : ℕ) → i < length (flat (swept upward rule g es [] wait (numbers w upward 0)))
      → (get_or (flat (swept upward rule g es [] wait (numbers w upward 0))) i z).k ≡ row_number w upward (get_or (row_counts 0 (swept upward rule g es [] wait (numbers w upward 0))) i 0)
  unfolding numbers
  piece_number wait i h = from_row (w.n - 0) 0 [] wait i h
