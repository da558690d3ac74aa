-- The rows of an accepted fill: their numbers are small, `k_lo` and `k_hi` lose nothing as i64, no row stands above the one before it, and a row's crossings have one order.
-- Assumes nothing.
use Rattle.std.specs.Prelude.{◌≡◌, refl, true, false, not, ◌&&◌, T, ℤ, pos, negsuc, nat_abs, ◌+ℤ◌, length}
use Rattle.std.proofs.Common.{ap, lt_irrefl, arith, le→leb}
use mathlib.Core.List.{List, [], ◌∷◌, map}
use Prim.Native.Nat.{ℕ, zero, suc, ◌+◌, ◌^◌, ◌≤◌, ◌<◌, zero-le}
use Rattle.std.proofs.Math.Dec.{lit≤}
use Rattle.std.proofs.Math.IntN.{suc_ℤ}
use Rattle.std.proofs.Math.Pow.{pow_pos}
use Rattle.std.specs.Int.Signed.{le_z}
use Rattle.std.specs.Float.Ieee.{Float, binary64, fits, le, is_nan}
use Rattle.std.specs.Float.{nan, inf, fin}
use Rattle.std.specs.Float.Ieee.Fits.{add-fits, sub-fits}
use Rattle.numbers.specs.Num.{◌⊕◌, ◌⊖◌, ◌⊗◌, ◌⊘◌, zero64, half, real}
use Rattle.numbers.specs.Order.{before, smaller, larger}
use Rattle.numbers.specs.Whole.{floor, ceil}
use Rattle.numbers.specs.Value.{Within, AtLeast, IsWhole}
use Rattle.numbers.specs.Laws.{le_refl, lt_le, smaller_has, larger_has, real_mono, add_mono, mul_mono, within_finite, within_more, within_between, within_add, within_sub, within_mul, within_div, within_real, atleast_le, atleast_above, ceil_signed, floor_signed}
use Rattle.seqs.specs.Lists.{fold, sift, upto, by_key, All, Sorted, Strict}
use Rattle.seqs.specs.All.{all_map}
use Rattle.seqs.specs.ByKey.{by_key_strict}
use Rattle.seqs.specs.Sort.{sort_perm}
use Rattle.seqs.specs.Signed.{nat_abs_add}
use Rattle.geom.specs.declared.point.P.{P}
use Rattle.rules.specs.declared.Settings.{Settings}
use Rattle.rules.specs.declared.Edge.{Edge}
use Rattle.rules.specs.Fill.{edges, how_many, through, ymin, ymax, k_lo, k_hi, row_numbers, row_at, no_edge, edge, starts, lives, cross_x, by_x, crossed}
use Rattle.rules.specs.Sweep.{InOrder, by_start}
use Rattle.rules.specs.Accepted.{Checked}
use Rattle.rules.specs.Alls.{all_get}
use Rattle.rules.specs.Edges.{Good, within_number, edges_good}
use Rattle.rules.specs.Keys.{keyed, sorted_up}

-- what is known of a row's number
abbrev pub Fair : ℤ → Type 0
Fair k = nat_abs k ≤ 2 ^ 22

-- what a crossing is worked out from
abbrev pub Plain : Edge → Type 0
Plain e = Within 19 e.y0 × Within 19 e.x0 × Within 50 e.dxdy

pub plain_none : Plain no_edge
unfolding Within
plain_none = (zero-le, zero-le, zero-le)

pub plain_good : (es : List Edge) → All Good es → All Plain es
plain_good = all_map (λ e h. (h.y0, h.x0, h.dxdy))

-- ---- top and bottom

fold_has : (Q : Float → Type 0) (pick : Float → Float → Float) (key : Edge → Float) → ((x y : Float) → Q x → Q y → Q (pick x y)) → (es : List Edge) (z : Float) → All (λ e. Q (key e)) es → Q z → Q (fold (λ e y. pick y (key e)) z es)
fold_has Q pick key h [] z k q = q
fold_has Q pick key h (e ∷ es) z k q = fold_has Q pick key h es (pick z (key e)) k.1 (h z (key e) q k.0)

first_small : (n : ℕ) (y : Float) → Within n y → Within n (smaller (inf false) y)
unfolding Within smaller before is_nan
first_small n nan h = h
first_small n (inf s) h = absurd h
first_small n (fin s m e) h = h

first_large : (n : ℕ) (y : Float) → Within n y → Within n (larger (inf true) y)
unfolding Within larger before is_nan
first_large n nan h = h
first_large n (inf s) h = absurd h
first_large n (fin s m e) h = h

module _ (e : Edge) (es : List Edge) (good : All Good (e ∷ es)) where
  ymin_within : Within 19 (ymin (e ∷ es))
  unfolding ymin
  ymin_within = fold_has (Within 19) smaller (λ d. d.y0) (smaller_has (Within 19)) es (smaller (inf false) e.y0) (all_map (λ d h. h.y0) es good.1) (first_small 19 e.y0 good.0.y0)

  ymax_within : Within 19 (ymax (e ∷ es))
  unfolding ymax
  ymax_within = fold_has (Within 19) larger (λ d. d.y1) (larger_has (Within 19)) es (larger (inf true) e.y1) (all_map (λ d h. h.y1) es good.1) (first_large 19 e.y1 good.0.y1)

-- ---- the settings' spacing

module _ (outline : List (List P)) (g : Settings) (cyc : ℕ) (ok : Checked outline g cyc) where
  half_within : (n : ℕ) → n ≤ 1000 → Within n half
  unfolding Within
  half_within n l = omega (arith, pow_pos n)

  pub spacing_within : Within 10 g.spacing
  spacing_within = within_between 10 half g.spacing (real (pos 1000)) ok.spacing.least ok.spacing.most (half_within 10 (lit≤ tt)) (within_real 10 (pos 1000) (lit≤ tt) (lit≤ tt))

  half_least : AtLeast 1 half
  unfolding AtLeast
  half_least = lit≤ tt

  pub spacing_least : AtLeast 1 g.spacing
  spacing_least = atleast_le 1 half g.spacing half_least (within_finite 10 g.spacing spacing_within) ok.spacing.least

  -- a height in rows
  in_rows : (y : Float) → Within 19 y → Within 21 (y ⊘ g.spacing ⊖ half)
  in_rows y h = within_sub 20 (y ⊘ g.spacing) half (lit≤ tt) (within_div 19 1 y g.spacing (lit≤ tt) h spacing_least) (half_within 20 (lit≤ tt))

  module _ (e : Edge) (es : List Edge) (good : All Good (e ∷ es)) where
    lo_whole : IsWhole 21 (ceil (ymin (e ∷ es) ⊘ g.spacing ⊖ half)) (k_lo g (e ∷ es))
    unfolding k_lo
    lo_whole = ceil_signed 21 (ymin (e ∷ es) ⊘ g.spacing ⊖ half) (lit≤ tt) (sub-fits binary64 (ymin (e ∷ es) ⊘ g.spacing) half) (in_rows (ymin (e ∷ es)) (ymin_within e es good))

    hi_whole : IsWhole 21 (floor (ymax (e ∷ es) ⊘ g.spacing ⊖ half)) (k_hi g (e ∷ es))
    unfolding k_hi
    hi_whole = floor_signed 21 (ymax (e ∷ es) ⊘ g.spacing ⊖ half) (lit≤ tt) (sub-fits binary64 (ymax (e ∷ es) ⊘ g.spacing) half) (in_rows (ymax (e ∷ es)) (ymax_within e es good))

  -- both, of edges that are there
  pub row_ends_whole : (es : List Edge) → All Good es → 0 < length es → IsWhole 21 (ceil (ymin es ⊘ g.spacing ⊖ half)) (k_lo g es) × IsWhole 21 (floor (ymax es ⊘ g.spacing ⊖ half)) (k_hi g es)
  row_ends_whole [] h l = absurd (lt_irrefl 0 l)
  row_ends_whole (e ∷ es) h l = (lo_whole e es h, hi_whole e es h)

  -- ---- row numbers

  made : (lo : ℤ) (i n : ℕ) → nat_abs lo ≤ 2 ^ 21 → i + n ≤ 4096 → All Fair (map (λ j. lo +ℤ pos j) (upto i n))
  made lo i zero h l = tt
  made lo i (suc n) h l = (omega (arith, nat_abs_add lo (pos i)), made lo (i + 1) n h (omega arith))

  counted : (lo : ℤ) (i n : ℕ) → length (map (λ j. lo +ℤ pos j) (upto i n)) ≡ n
  counted lo i zero = refl
  counted lo i (suc n) = ap suc (counted lo (i + 1) n)

  fair_of : (es : List Edge) → All Good es → length (row_numbers g es) ≤ 4096 → All Fair (row_numbers g es)
  unfolding row_numbers through
  fair_of [] h l = tt
  fair_of (e ∷ es) h l =
      let lo = k_lo g (e ∷ es) in
      let n = how_many lo (k_hi g (e ∷ es)) in
      made lo 0 n (lo_whole e es h).small (omega (arith, counted lo 0 n))

  pub rows_fair : All Fair (row_numbers g (edges g outline))
  rows_fair = fair_of (edges g outline) (edges_good outline g cyc ok) ok.rows

  -- ---- heights

  mid_within : (k : ℤ) → Fair k → Within 23 (real k ⊕ half)
  mid_within k h = within_add 22 (real k) half (lit≤ tt) (within_real 22 k (lit≤ tt) h) (half_within 22 (lit≤ tt))

  pub row_within : (k : ℤ) → Fair k → Within 33 (row_at g k)
  unfolding row_at
  row_within k h = within_mul 23 10 (real k ⊕ half) g.spacing (lit≤ tt) (mid_within k h) spacing_within

  up_one : (k : ℤ) → T (le_z k (suc_ℤ k))
  up_one (pos n) = le→leb n (suc n) (omega arith)
  up_one (negsuc zero) = tt
  up_one (negsuc (suc n)) = le→leb n (suc n) (omega arith)

  pub rows_fall : (k : ℤ) → Fair k → Fair (suc_ℤ k) → T (le (row_at g k) (row_at g (suc_ℤ k)))
  unfolding row_at
  rows_fall k h j =
      mul_mono (real k ⊕ half) (real (suc_ℤ k) ⊕ half) g.spacing (within_finite 23 (real k ⊕ half) (mid_within k h)) (within_finite 23 (real (suc_ℤ k) ⊕ half) (mid_within (suc_ℤ k) j)) (within_finite 10 g.spacing spacing_within)
      (lt_le zero64 g.spacing (atleast_above 1 g.spacing spacing_least))
      (add_mono (real k) (real (suc_ℤ k)) half half (within_finite 22 (real k) (within_real 22 k (lit≤ tt) h)) (within_finite 22 (real (suc_ℤ k)) (within_real 22 (suc_ℤ k) (lit≤ tt) j)) (within_finite 22 half (half_within 22 (lit≤ tt))) (within_finite 22 half (half_within 22 (lit≤ tt)))
      (real_mono k (suc_ℤ k) (up_one k)) (le_refl half (within_number 22 half (half_within 22 (lit≤ tt)))))

  -- ---- the crossings of a row

  plain : (i : ℕ) → Plain (edge (edges g outline) i)
  plain i = all_get Plain no_edge plain_none (edges g outline) (plain_good (edges g outline) (edges_good outline g cyc ok)) i

  -- where an edge crosses a row
  pub edge_within : (k : ℤ) → Fair k → (e : Edge) → Plain e → Within 85 (e.x0 ⊕ (row_at g k ⊖ e.y0) ⊗ e.dxdy)
  edge_within k h e p =
      let y = row_at g k in
      within_add 84 e.x0 ((y ⊖ e.y0) ⊗ e.dxdy) (lit≤ tt) (within_more 19 84 e.x0 (lit≤ tt) p.1)
      (within_mul 34 50 (y ⊖ e.y0) e.dxdy (lit≤ tt) (within_sub 33 y e.y0 (lit≤ tt) (row_within k h) (within_more 19 33 e.y0 (lit≤ tt) p.0)) p.2)

  cross_within : (k : ℤ) → Fair k → (i : ℕ) → Within 85 (cross_x (edges g outline) (row_at g k) i)
  unfolding cross_x
  cross_within k h i = edge_within k h (edge (edges g outline) i) (plain i)

  pub rows_strict : (k : ℤ) → Fair k → Strict (by_x (edges g outline) (row_at g k))
  unfolding by_x cross_x
  rows_strict k h =
      by_key_strict before (cross_x (edges g outline) (row_at g k))
      (keyed (cross_x (edges g outline) (row_at g k)) (λ i. add-fits binary64 _ _) (λ i. within_number 85 (cross_x (edges g outline) (row_at g k) i) (cross_within k h i)))

  -- they go to the right
  pub crossings_in_order : (k : ℤ) → Fair k → Sorted (λ i j. T (le (cross_x (edges g outline) (row_at g k) i) (cross_x (edges g outline) (row_at g k) j))) (crossed (edges g outline) (row_at g k))
  unfolding crossed by_x cross_x
  crossings_in_order k h =
      let es = edges g outline in
      let y = row_at g k in
      sorted_up (cross_x es y) (λ i. add-fits binary64 _ _) (λ i. within_number 85 (cross_x es y i) (cross_within k h i)) (sift (λ i. starts es y i && lives es y i) (upto 0 (length es)))

  -- ---- the order in which the sweep takes up the edges

  start_number : (i : ℕ) → T (not (is_nan (edge (edges g outline) i).y0))
  start_number i = within_number 19 (edge (edges g outline) i).y0 (plain i).0

  start_fits : (i : ℕ) → T (fits binary64 (edge (edges g outline) i).y0)
  start_fits i = all_get (λ e. T (fits binary64 e.y0)) no_edge (unfold fits in tt) (edges g outline) (all_map (λ e h. h.fit) (edges g outline) (edges_good outline g cyc ok)) i

  pub starts_in_order : InOrder (edges g outline) (by_start (edges g outline))
  unfolding by_start
  starts_in_order =
      let key : ℕ → Float = λ i. (edge (edges g outline) i).y0 in
      record {
        all = sort_perm (by_key before key) (upto 0 (length (edges g outline)));
        rising = sorted_up key start_fits start_number (upto 0 (length (edges g outline)));
      }
