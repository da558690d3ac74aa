-- Where a row ends, the rows one after the other, and what stands in a slice from some place on. Assumes nothing.
use Rattle.std.specs.Prelude.{Bool, true, false, cond, ℕ, ◌+◌, ◌-◌, ◌≤◌, ◌<◌, ◌≡◌, ◌≢◌, refl, List, [], ◌∷◌, map, eqb, length, get_or, take, drop, Float}
use Rattle.std.specs.List.{prefix_len}
use Rattle.std.proofs.Common.{arith, sym, ap, ◌∙◌, get_or-drop, drop-drop}
use borrow.Author.Tests.{eq-eqb, ne_eqb}
use Rattle.seqs.specs.Lists.{upto, take_while}
use Rattle.seqs.specs.Reads.{part_next, part_none, drop_take, fuel_more, fuel_none}
use Rattle.sections.specs.Mark.{piece_in, row_end, rows_in}

module _ (w : List ℕ) (n i r : ℕ) (room : n ≤ length w) where
  pub row_more : i < n → get_or w i 0 ≡ r → row_end w n i r ≡ row_end w n (i + 1) r
  unfolding row_end
  row_more h e = rw (part_next w n i 0 h room, eq-eqb (get_or w i 0) r e) (omega arith)

  pub row_stop : i < n → get_or w i 0 ≢ r → row_end w n i r ≡ i
  unfolding row_end
  row_stop h e = rw (part_next w n i 0 h room, ne_eqb (get_or w i 0) r e) (omega arith)

  pub row_done : n ≤ i → row_end w n i r ≡ i
  unfolding row_end
  row_done h = rw (part_none w n i h room) (omega arith)

while_length : {A : Type 0} (p : A → Bool) (xs : List A) → length (take_while p xs) ≡ prefix_len p xs
while_length p [] = refl
while_length p (a ∷ xs) = go (p a) (while_length p xs)
  where
    go : (b : Bool) → length (take_while p xs) ≡ prefix_len p xs → length (cond b (a ∷ take_while p xs) []) ≡ cond b (1 + prefix_len p xs) 0
    go true e = omega arith
    go false e = refl

-- by the part of the slice that the code looks at
pub row_end_part : (w : List ℕ) (n i r : ℕ) → i ≤ n → row_end w n i r ≡ i + prefix_len (λ a. eqb a r) (take (n - i) (drop i w))
unfolding row_end
row_end_part w n i r h =
    let e : i + (n - i) ≡ n = omega arith in
    ap (λ l. i + l) (while_length (λ a. eqb a r) (drop i (take n w))) ∙ ap (λ l. i + prefix_len (λ a. eqb a r) l) (sym (rw e at (drop_take i (n - i) w)))

-- it looks at the first n only
pub row_kept : (v w : List ℕ) (n i r : ℕ) → take n v ≡ take n w → row_end v n i r ≡ row_end w n i r
unfolding row_end
row_kept v w n i r e = ap (λ x. i + length (take_while (λ a. eqb a r) (drop i x))) e

module _ (l : List Float) (w : List ℕ) (n i r rows : ℕ) where
  pub rows_next : r < rows → rows_in l w n i r (rows - r) ≡ map (piece_in l) (upto i (row_end w n i r - i)) ∷ rows_in l w n (row_end w n i r) (r + 1) (rows - (r + 1))
  unfolding rows_in
  rows_next h = rw (fuel_more rows r h)

  pub rows_none : rows ≤ r → rows_in l w n i r (rows - r) ≡ []
  unfolding rows_in
  rows_none h = rw (fuel_none rows r h)

-- m stands in d from k on
module _ {ℓ} {A : Type ℓ} (d : List A) (k j : ℕ) {m : List A} (e : drop k d ≡ m) where
  pub read_in : (z : A) → get_or d (k + j) z ≡ get_or m j z
  read_in z = sym (get_or-drop k d j z) ∙ ap (λ x. get_or x j z) e

  pub drop_in : drop (k + j) d ≡ drop j m
  drop_in = sym (drop-drop j k d) ∙ ap (drop j) e
