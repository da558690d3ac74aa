-- The sweep, down or up, finds in each row the pieces that the row has alone, wherever rows go one way and a row's crossings have one order.
-- Assumes nothing.
use Rattle.std.specs.Prelude.{◌≡◌, Bool, true, false, ◌&&◌, cond, ℕ, T, ℤ, length, Float}
use Rattle.std.proofs.Math.Path.{refl, ap}
use Rattle.std.proofs.Common.{◌∙◌}
use mathlib.Core.List.{List, [], ◌∷◌, map, Permᴰ, IsChain, IsChain-cons-cons}
use Rattle.std.specs.Float.Ieee.{le, lt}
use Rattle.std.specs.Float.Ieee.Bits.{is_true}
use Rattle.numbers.specs.FloatOrder.{le_trans, le_lt_trans, lt_le_trans}
use Rattle.numbers.specs.Laws.{holds}
use Rattle.seqs.specs.Lists.{sift, drop_while, sort_by, upto, sweep_by, All, Sorted, Strict, Sorts}
use Rattle.seqs.specs.All.{sorted_map}
use Rattle.seqs.specs.Sift.{sift_same}
use Rattle.seqs.specs.Sort.{backs_sort, backs_sorts}
use Rattle.seqs.specs.Sweep.{Below, crosses, sweep_alone}
use Rattle.outlines.specs.declared.rule.FillRule.{FillRule}
use Rattle.rules.specs.declared.Settings.{Settings}
use Rattle.rules.specs.declared.Edge.{Edge}
use Rattle.rules.specs.declared.Piece.{Piece}
use Rattle.rules.specs.Fill.{edge, row_at, starts, lives, by_x, crossed, pieces_at, pieces_of}
use Rattle.sweep.specs.declared.key.Key.TheVariants.{X}
use Rattle.sweep.specs.Swept.{ordered, enters, stays, places, swept}

-- row z is met after row y
abbrev pub onward : Bool → Float → Float → Bool
onward upward y z = cond upward (le z y) (le y z)

-- edge i is taken up no later than edge j
abbrev pub sooner : Bool → List Edge → ℕ → ℕ → Bool
sooner upward es i j = cond upward (le (edge es j).y1 (edge es i).y1) (le (edge es i).y0 (edge es j).y0)

below_at : (upward : Bool) (es : List Edge) (y z : Float) → T (onward upward y z)
    → ((i : ℕ) → enters upward es y i ≡ true → enters upward es z i ≡ true) × ((i : ℕ) → stays upward es z i ≡ true → stays upward es y i ≡ true)
unfolding enters stays starts lives
below_at true es y z h =
    (λ i t. is_true (lt z (edge es i).y1) (le_lt_trans z y (edge es i).y1 h (holds t)), λ i t. is_true (le (edge es i).y0 y) (le_trans (edge es i).y0 z y (holds t) h))
below_at false es y z h =
    (λ i t. is_true (le (edge es i).y0 z) (le_trans (edge es i).y0 y z (holds t) h), λ i t. is_true (lt y (edge es i).y1) (le_lt_trans y z (edge es i).y1 h (holds t)))

earlier_at : (upward : Bool) (es : List Edge) (i j : ℕ) → T (sooner upward es i j) → (y : Float) → enters upward es y j ≡ true → enters upward es y i ≡ true
unfolding enters starts lives
earlier_at true es i j h y t = is_true (lt y (edge es i).y1) (lt_le_trans y (edge es j).y1 (edge es i).y1 (holds t) h)
earlier_at false es i j h y t = is_true (le (edge es i).y0 y) (le_trans (edge es i).y0 (edge es j).y0 y h (holds t))

-- both tests, in either order
and_swap : (a b : Bool) → (a && b) ≡ (b && a)
and_swap true true = refl
and_swap true false = refl
and_swap false true = refl
and_swap false false = refl

swapped : (es : List Edge) (y : Float) (l : List ℕ) → All (λ i. (lives es y i && starts es y i) ≡ (starts es y i && lives es y i)) l
swapped es y [] = tt
swapped es y (i ∷ l) = (and_swap (lives es y i) (starts es y i), swapped es y l)

crossed_at : (upward : Bool) (es : List Edge) (y : Float) → sort_by (by_x es y) (sift (λ i. enters upward es y i && stays upward es y i) (upto 0 (length es))) ≡ crossed es y
unfolding enters stays crossed
crossed_at true es y = ap (sort_by (by_x es y)) (sift_same (λ i. lives es y i && starts es y i) (λ i. starts es y i && lives es y i) (upto 0 (length es)) (swapped es y (upto 0 (length es))))
crossed_at false es y = refl

order_is : (es : List Edge) (y : Float) → Strict (by_x es y) → (l : List ℕ) → ordered (X y) es l ≡ sort_by (by_x es y) l
unfolding ordered by_x
order_is es y o l = backs_sort (by_x es y) o l

order_sorts : (es : List Edge) (y : Float) → Strict (by_x es y) → Sorts (ordered (X y) es)
unfolding ordered by_x
order_sorts es y o = backs_sorts (by_x es y) o

-- `Fair`: what is known of the rows' numbers
module _ (upward : Bool) (rule : FillRule) (g : Settings) (es : List Edge) (Fair : ℤ → Type 0) (strict : (k : ℤ) → Fair k → Strict (by_x es (row_at g k))) where
  Row : Type 0
  Row = (k : ℤ) × Fair k

  y_of : Row → Float
  unfolding Row
  y_of r = row_at g r.0

  rows : (ks : List ℤ) → All Fair ks → List Row
  unfolding Row
  rows [] h = []
  rows (k ∷ ks) h = (k, h.0) ∷ rows ks h.1

  begun : Row → ℕ → Bool
  begun r = enters upward es (y_of r)

  going : Row → ℕ → Bool
  going r = stays upward es (y_of r)

  order : Row → List ℕ → List ℕ
  order r = ordered (X (y_of r)) es

  sorts : (r : Row) → Sorts (order r)
  unfolding order y_of Row
  sorts r = order_sorts es (row_at g r.0) (strict r.0 r.1)

  -- each row's pieces, from the places that a sweep holds at it
  pieces : List Row → List (List ℕ) → List (List Piece)
  unfolding Row
  pieces [] ls = []
  pieces (r ∷ rs) [] = []
  pieces (r ∷ rs) (l ∷ ls) = pieces_at rule g es r.0 l ∷ pieces rs ls

  as_sweep : (active wait : List ℕ) (ks : List ℤ) (h : All Fair ks)
      → swept upward rule g es active wait ks ≡ pieces (rows ks h) (sweep_by begun going order active wait (rows ks h))
  unfolding swept places pieces rows begun going order y_of Row
  as_sweep active wait [] h = refl
  as_sweep active wait (k ∷ ks) h =
      let now = places upward es (row_at g k) active wait in
      ap (λ r. pieces_at rule g es k now ∷ r) (as_sweep now (drop_while (enters upward es (row_at g k)) wait) ks h.1)

  alone : (ks : List ℤ) (h : All Fair ks) → pieces (rows ks h) (map (λ r. order r (sift (crosses begun going r) (upto 0 (length es)))) (rows ks h)) ≡ map (pieces_of rule g es) ks
  unfolding pieces rows order begun going y_of pieces_of Row
  alone [] h = refl
  alone (k ∷ ks) h =
      let y = row_at g k in
      let e = order_is es y (strict k h.0) (sift (λ i. enters upward es y i && stays upward es y i) (upto 0 (length es))) ∙ crossed_at upward es y in
      λ i. pieces_at rule g es k (e i) ∷ alone ks h.1 i

  rows_below : (ks : List ℤ) (h : All Fair ks) → IsChain (λ a b. T (onward upward (row_at g a) (row_at g b))) ks → IsChain (Below begun going) (rows ks h)
  unfolding rows begun going y_of Row
  rows_below [] h c = IsChain.nil
  rows_below (k ∷ []) h c = IsChain.singleton (k, h.0)
  rows_below (k ∷ j ∷ ks) h c =
      let e = IsChain-cons-cons.0 c in
      let b = below_at upward es (row_at g k) (row_at g j) e.0 in
      IsChain.cons-cons (record { begins = b.0; goes_on = b.1 }) (rows_below (j ∷ ks) h.1 e.1)

  pub swept_alone : (wait : List ℕ) → Permᴰ wait (upto 0 (length es)) → Sorted (λ i j. T (sooner upward es i j)) wait
      → (ks : List ℤ) → All Fair ks → IsChain (λ a b. T (onward upward (row_at g a) (row_at g b))) ks
      → swept upward rule g es [] wait ks ≡ map (pieces_of rule g es) ks
  unfolding begun
  swept_alone wait perm sorted ks fair run =
      as_sweep [] wait ks fair
      ∙ ap (pieces (rows ks fair)) (sweep_alone begun going order sorts (rows ks fair) wait (upto 0 (length es)) (rows_below ks fair run) (sorted_map (λ i j h r t. earlier_at upward es i j h (y_of r) t) wait sorted) perm)
      ∙ alone ks fair
