-- The sweep finds in each row the pieces that the row has alone, wherever rows never go up and a row's crossings have one order. Assumes nothing.
use Rattle.std.specs.Prelude.{◌≡◌, Bool, ℕ, ℤ, length, Float}
use Rattle.std.proofs.Math.Path.{refl, ap}
use Rattle.std.proofs.Common.{sym, ◌∙◌, subst}
use mathlib.Core.List.{List, [], ◌∷◌, ◌++◌, map, Permᴰ, IsChain, IsChain-cons-cons}
use Rattle.std.proofs.Math.Dec.{T}
use Rattle.std.proofs.Math.IntN.{suc_ℤ}
use Rattle.std.specs.Float.Ieee.{le, lt}
use Rattle.std.specs.Float.Ieee.Bits.{is_true}
use Rattle.numbers.specs.Laws.{le_trans, le_lt_trans, holds}
use Rattle.seqs.specs.Lists.{sift, take_while, drop_while, sort_by, upto, sweep_by, All, Sorted, Strict, Sorts}
use Rattle.seqs.specs.All.{sorted_map}
use Rattle.seqs.specs.Sift.{sift_append, sift_perm}
use Rattle.seqs.specs.Sort.{sort_perm, sort_same, sort_sorts}
use Rattle.seqs.specs.Sweep.{Below, Earlier, crosses, sweep_alone}
use Rattle.outlines.specs.declared.rule.FillRule.{FillRule}
use Rattle.rules.specs.declared.Settings.{Settings}
use Rattle.rules.specs.declared.Edge.{Edge}
use Rattle.rules.specs.declared.Piece.{Piece}
use Rattle.rules.specs.Fill.{edge, row_at, starts, lives, by_x, crossed, pieces_at, pieces_of}
use Rattle.rules.specs.Sweep.{InOrder, swept, swept_by}

-- `Fair`: what is known of the rows' numbers
module _ (rule : FillRule) (g : Settings) (es : List Edge) (Fair : ℤ → Type 0)
    (strict : (k : ℤ) → Fair k → Strict (by_x es (row_at g k)))
    (falls : (k : ℤ) → Fair k → Fair (suc_ℤ k) → T (le (row_at g k) (row_at g (suc_ℤ k)))) where
  Row : Type 0
  Row = (k : ℤ) × Fair k

  y_of : Row → Float
  unfolding Row
  y_of r = row_at g r.0

  rows : (ks : List ℤ) → All Fair ks → List Row
  unfolding Row
  rows [] h = []
  rows (k ∷ ks) h = (k, h.0) ∷ rows ks h.1

  begun : Row → ℕ → Bool
  begun r = starts es (y_of r)

  going : Row → ℕ → Bool
  going r = lives es (y_of r)

  order : Row → List ℕ → List ℕ
  order r = sort_by (by_x es (y_of r))

  sorts : (r : Row) → Sorts (order r)
  unfolding order y_of Row
  sorts r = sort_sorts (by_x es (row_at g r.0)) (strict r.0 r.1)

  -- each row's pieces, from the places that a sweep holds at it
  pieces : List Row → List (List ℕ) → List (List Piece)
  unfolding Row
  pieces [] ls = []
  pieces (r ∷ rs) [] = []
  pieces (r ∷ rs) (l ∷ ls) = pieces_at rule g es r.0 l ∷ pieces rs ls

  as_sweep : (active waiting : List ℕ) (ks : List ℤ) (h : All Fair ks)
      → swept_by (λ y. sort_by (by_x es y)) rule g es active waiting ks ≡ pieces (rows ks h) (sweep_by begun going order active waiting (rows ks h))
  unfolding swept_by pieces rows begun going order y_of Row
  as_sweep active waiting [] h = refl
  as_sweep active waiting (k ∷ ks) h =
      let y = row_at g k in
      let now = sort_by (by_x es y) (sift (lives es y) active ++ sift (lives es y) (take_while (starts es y) waiting)) in
      ap (λ r. pieces_at rule g es k now ∷ r) (as_sweep now (drop_while (starts es y) waiting) ks h.1)

  alone : (ks : List ℤ) (h : All Fair ks) → pieces (rows ks h) (map (λ r. order r (sift (crosses begun going r) (upto 0 (length es)))) (rows ks h)) ≡ map (pieces_of rule g es) ks
  unfolding pieces rows order begun going y_of pieces_of crossed Row
  alone [] h = refl
  alone (k ∷ ks) h = ap (λ r. pieces_of rule g es k ∷ r) (alone ks h.1)

  below : (r s : Row) → T (le (y_of r) (y_of s)) → Below begun going r s
  unfolding begun going starts lives
  below r s h = record {
    begins = λ i t. is_true (le (edge es i).y0 (y_of s)) (le_trans (edge es i).y0 (y_of r) (y_of s) (holds t) h);
    goes_on = λ i t. is_true (lt (y_of r) (edge es i).y1) (le_lt_trans (y_of r) (y_of s) (edge es i).y1 h (holds t));
  }

  rows_below : (ks : List ℤ) (h : All Fair ks) → IsChain (λ a b. b ≡ suc_ℤ a) ks → IsChain (Below begun going) (rows ks h)
  unfolding rows y_of Row
  rows_below [] h c = IsChain.nil
  rows_below (k ∷ []) h c = IsChain.singleton (k, h.0)
  rows_below (k ∷ j ∷ ks) h c =
      let e = IsChain-cons-cons.0 c in
      IsChain.cons-cons (below (k, h.0) (j, h.1.0) (subst (λ i. T (le (row_at g k) (row_at g i))) (sym e.0) (falls k h.0 (subst Fair e.0 h.1.0))))
      (rows_below (j ∷ ks) h.1 e.1)

  earlier : (waiting : List ℕ) → InOrder es waiting → Sorted (Earlier begun) waiting
  unfolding begun starts
  earlier waiting w = sorted_map (λ i j h r t. is_true (le (edge es i).y0 (y_of r)) (le_trans (edge es i).y0 (edge es j).y0 (y_of r) h (holds t))) waiting w.rising

  module _ (waiting : List ℕ) (w : InOrder es waiting) (ks : List ℤ) (fair : All Fair ks) (run : IsChain (λ a b. b ≡ suc_ℤ a) ks) where
    by_sort : swept_by (λ y. sort_by (by_x es y)) rule g es [] waiting ks ≡ map (pieces_of rule g es) ks
    by_sort =
        as_sweep [] waiting ks fair
        ∙ ap (pieces (rows ks fair)) (sweep_alone begun going order sorts (rows ks fair) waiting (upto 0 (length es)) (rows_below ks fair run) (earlier waiting w) w.all)
        ∙ alone ks fair

  -- whatever puts a row's places in order
  pub swept_by_lem : (order : Float → List ℕ → List ℕ) → ((k : ℤ) → Fair k → (l : List ℕ) → order (row_at g k) l ≡ sort_by (by_x es (row_at g k)) l)
      → (active waiting : List ℕ) (ks : List ℤ) → All Fair ks → swept_by order rule g es active waiting ks ≡ swept_by (λ y. sort_by (by_x es y)) rule g es active waiting ks
  unfolding swept_by
  swept_by_lem order o active waiting [] h = refl
  swept_by_lem order o active waiting (k ∷ ks) h =
      let y = row_at g k in
      let l = sift (lives es y) active ++ sift (lives es y) (take_while (starts es y) waiting) in
      (λ i. pieces_at rule g es k (o k h.0 l i) ∷ swept_by order rule g es (o k h.0 l i) (drop_while (starts es y) waiting) ks)
      ∙ ap (λ r. pieces_at rule g es k (sort_by (by_x es y) l) ∷ r) (swept_by_lem order o (sort_by (by_x es y) l) (drop_while (starts es y) waiting) ks h.1)

  -- active places in the order pushed, or in the last row's
  pub swept_as : {a b : List ℕ} → Permᴰ a b → (waiting : List ℕ) (ks : List ℤ) → All Fair ks → swept rule g es a waiting ks ≡ swept_by (λ y. sort_by (by_x es y)) rule g es b waiting ks
  unfolding swept swept_by
  swept_as {a} {b} p waiting [] h = refl
  swept_as {a} {b} p waiting (k ∷ ks) h =
      let y = row_at g k in
      let f = take_while (starts es y) waiting in
      let m = sift (lives es y) b ++ sift (lives es y) f in
      let q : Permᴰ (sift (lives es y) (a ++ f)) m = rw (sift_append (lives es y) a f) (mathlib.Core.List.Permᴰ.append_right (sift (lives es y) f) (sift_perm (lives es y) p)) in
      (λ i. pieces_at rule g es k (sort_same (by_x es y) (strict k h.0) q i) ∷ swept_as {a = sift (lives es y) (a ++ f)} {b = sort_by (by_x es y) m} (mathlib.Core.List.Permᴰ.trans q (mathlib.Core.List.Permᴰ.symm (sort_perm (by_x es y) m))) (drop_while (starts es y) waiting) ks h.1 i)

  module _ (waiting : List ℕ) (w : InOrder es waiting) (ks : List ℤ) (fair : All Fair ks) (run : IsChain (λ a b. b ≡ suc_ℤ a) ks) where
    -- the source's sweep
    pub swept_alone : swept rule g es [] waiting ks ≡ map (pieces_of rule g es) ks
    swept_alone = swept_as mathlib.Core.List.Permᴰ.nil waiting ks fair ∙ by_sort waiting w ks fair run

    -- the code's sweep
    pub swept_by_alone : (order : Float → List ℕ → List ℕ) → ((k : ℤ) → Fair k → (l : List ℕ) → order (row_at g k) l ≡ sort_by (by_x es (row_at g k)) l)
        → swept_by order rule g es [] waiting ks ≡ map (pieces_of rule g es) ks
    swept_by_alone order o = swept_by_lem order o [] waiting ks fair ∙ by_sort waiting w ks fair run
