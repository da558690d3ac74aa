-- The rows of a list of edges, from its top and bottom; that row numbers fit. Assumes nothing.
use Rattle.std.specs.Prelude.{ℕ, ◌+◌, ◌^◌, ◌≤◌, ◌<◌, ◌≡◌, min, Bool, true, false, ℤ, pos, negsuc, nat_abs, ◌+ℤ◌, ◌-ℤ◌, length, Float}
use Rattle.std.proofs.Common.{arith, sym, ◌∙◌, SFits}
use Rattle.std.proofs.Math.Path.{refl, ap}
use Rattle.std.proofs.Math.Logic.{inl, inr}
use mathlib.Core.List.{List, [], ◌∷◌}
use Rattle.std.proofs.lemmas.List.{length-map}
use Rattle.std.specs.Int.Signed.{le_z, lt_z}
use Rattle.std.specs.Float.Ieee.{to_signed}
use Rattle.std.specs.Float.Ieee.Casts.{to_signed_in}
use Rattle.std.specs.Int.{w64}
use Rattle.numbers.specs.Num.{◌⊖◌, ◌⊘◌, half}
use Rattle.numbers.specs.Order.{smaller, larger}
use Rattle.numbers.specs.Whole.{floor, ceil}
use Rattle.seqs.specs.Lists.{fold, upto}
use Rattle.seqs.specs.Slices.{capped}
use Rattle.seqs.specs.Tests.{either, clash}
use Rattle.seqs.specs.Capped.{capped_in, capped_over, capped_cases}
use Rattle.seqs.specs.Upto.{upto_length}
use Rattle.seqs.specs.Ints.{above, below, gap, le_makes, lt_says, lt_denies, fits_says, add_parts, sub_parts_is, fits_between}
use Rattle.rules.specs.declared.Settings.{Settings}
use Rattle.rules.specs.declared.Edge.{Edge}
use Rattle.rules.specs.Fill.{ymin, ymax, k_lo, k_hi, how_many, through, row_numbers}
use Rattle.edges.specs.declared.rows.Extent.{Extent}
use Rattle.edges.specs.declared.rows.Rows.{Rows}
use Rattle.edges.specs.Span.{nowhere, widen, rows_of, row_number, Spanned}

-- ---- top and bottom

fold_top : (es : List Edge) (x : Extent) → (fold widen x es).top ≡ fold (λ e y. smaller y e.y0) x.top es
fold_top [] x = refl
fold_top (e ∷ es) x = fold_top es (widen e x)

fold_bottom : (es : List Edge) (x : Extent) → (fold widen x es).bottom ≡ fold (λ e y. larger y e.y1) x.bottom es
fold_bottom [] x = refl
fold_bottom (e ∷ es) x = fold_bottom es (widen e x)

fold_any : (es : List Edge) (x : Extent) → x.any ≡ true → (fold widen x es).any ≡ true
fold_any [] x h = h
fold_any (e ∷ es) x h = fold_any es (widen e x) refl

module _ (g : Settings) (es : List Edge) {x : Extent} (is : x ≡ fold widen nowhere es) where
  pub top_is : x.top ≡ ymin es
  unfolding ymin
  top_is = ap (λ x. x.top) is ∙ fold_top es nowhere

  pub bottom_is : x.bottom ≡ ymax es
  unfolding ymax
  bottom_is = ap (λ x. x.bottom) is ∙ fold_bottom es nowhere

pub through_length : (lo hi : ℤ) → length (through lo hi) ≡ how_many lo hi
unfolding through
through_length lo hi = length-map (upto 0 (how_many lo hi)) (λ i. lo +ℤ pos i) ∙ upto_length 0 (how_many lo hi)

module _ (g : Settings) where
  pub some_rows : (es : List Edge) → (fold widen nowhere es).any ≡ true → length (row_numbers g es) ≡ how_many (k_lo g es) (k_hi g es)
  unfolding row_numbers
  some_rows [] h = clash h refl
  some_rows (e ∷ es) h = through_length (k_lo g (e ∷ es)) (k_hi g (e ∷ es))

  pub no_rows : (es : List Edge) → (fold widen nowhere es).any ≡ false → length (row_numbers g es) ≡ 0
  unfolding row_numbers
  no_rows [] h = refl
  no_rows (e ∷ es) h = clash (fold_any es (widen e nowhere) refl) h

-- ---- counts

module _ (lo hi : ℤ) (h : le_z lo hi ≡ true) where
  many : how_many lo hi ≡ nat_abs (hi -ℤ lo) + 1
  unfolding how_many
  many = rw h

  -- no difference of two row numbers wraps
  pub many_capped : min (nat_abs (hi -ℤ lo)) 4096 + 1 ≡ capped 4096 (how_many lo hi)
  many_capped = elim (capped_cases 4096 (how_many lo hi)) [ inl w ↦ omega (arith, w, many) | inr w ↦ omega (arith, w, many) ]

  pub many_few : nat_abs (hi -ℤ lo) < 4096 → nat_abs (hi -ℤ lo) + 1 ≡ capped 4096 (how_many lo hi)
  many_few k = sym many ∙ sym (capped_in 4096 (how_many lo hi) (omega (arith, many)))

  pub many_over : 4096 ≤ nat_abs (hi -ℤ lo) → 4097 ≡ capped 4096 (how_many lo hi)
  many_over k = sym (capped_over 4096 (how_many lo hi) (omega (arith, many)))

  -- where the difference is small enough to be worked out
  pub gap_low : lt_z hi (pos 0) ≡ true → SFits w64 lo → nat_abs (hi -ℤ lo) < 2 ^ 63
  gap_low k f = omega (arith, gap lo hi h, lt_says hi (pos 0) k, fits_says lo f)

  pub gap_high : lt_z lo (pos 0) ≡ false → SFits w64 hi → nat_abs (hi -ℤ lo) < 2 ^ 63
  gap_high k f = omega (arith, gap lo hi h, lt_denies lo (pos 0) k, fits_says hi f)

  pub gap_about : lt_z lo (negsuc 4095) ≡ false → lt_z (pos 4096) hi ≡ false → nat_abs (hi -ℤ lo) < 2 ^ 63
  gap_about k f = omega (arith, gap lo hi h, lt_denies lo (negsuc 4095) k, lt_denies (pos 4096) hi f)

  -- and where it is too large to matter
  pub gap_below : lt_z lo (negsuc 4095) ≡ true → lt_z hi (pos 0) ≡ false → 4096 ≤ nat_abs (hi -ℤ lo)
  gap_below k f = omega (arith, gap lo hi h, lt_says lo (negsuc 4095) k, lt_denies hi (pos 0) f)

  pub gap_above : lt_z (pos 4096) hi ≡ true → lt_z lo (pos 0) ≡ true → 4096 ≤ nat_abs (hi -ℤ lo)
  gap_above k f = omega (arith, gap lo hi h, lt_says (pos 4096) hi k, lt_says lo (pos 0) f)

pub many_none : (lo hi : ℤ) → le_z lo hi ≡ false → 0 ≡ capped 4096 (how_many lo hi)
unfolding how_many
many_none lo hi h = rw h (sym (capped_in 4096 0 (omega arith)))

-- what the calls on the way to the rows give, put together
module _ (g : Settings) (es : List Edge) {x : Extent} (is : x ≡ fold widen nowhere es) {up down : Float} {lo hi : ℤ} (c : up ≡ ceil (x.top ⊘ g.spacing ⊖ half)) (f : down ≡ floor (x.bottom ⊘ g.spacing ⊖ half)) (l : lo ≡ to_signed 63 up) (h : hi ≡ to_signed 63 down) where
  lo_is : lo ≡ k_lo g es
  unfolding k_lo
  lo_is = l ∙ rw (c, top_is g es is)

  hi_is : hi ≡ k_hi g es
  unfolding k_hi
  hi_is = h ∙ rw (f, bottom_is g es is)

  pub rows_some : x.any ≡ true → {n : ℕ} → n ≡ capped 4096 (how_many lo hi) → record { lo = lo; hi = hi; n = n } ≡ rows_of g es
  unfolding rows_of
  rows_some a {n} m = rw (m, lo_is, hi_is, some_rows g es (sym (ap (λ x. x.any) is) ∙ a))

  pub rows_none : x.any ≡ false → record { lo = lo; hi = hi; n = 0 } ≡ rows_of g es
  unfolding rows_of
  rows_none a = rw (lo_is, hi_is, no_rows g es (sym (ap (λ x. x.any) is) ∙ a), capped_in 4096 0 (omega arith))

-- ---- row numbers

-- r rows on from the first, and back from the last
module _ (lo hi : ℤ) (r : ℕ) (h : r < how_many lo hi) where
  in_order : le_z lo hi ≡ true
  unfolding how_many
  in_order = elim (either (le_z lo hi)) [ inl e ↦ e | inr e ↦ absurd (omega (arith, rw e at h)) ]

  far : r + (above lo + below hi) ≤ above hi + below lo
  far = omega (arith, gap lo hi in_order, many lo hi in_order)

  pub up_fits : SFits w64 lo → SFits w64 hi → SFits w64 (lo +ℤ pos r)
  up_fits = fits_between lo hi (lo +ℤ pos r) (le_makes lo (lo +ℤ pos r) (omega (arith, add_parts lo (pos r)))) (le_makes (lo +ℤ pos r) hi (omega (arith, far, add_parts lo (pos r))))

  pub down_fits : SFits w64 lo → SFits w64 hi → SFits w64 (hi -ℤ pos r)
  down_fits = fits_between lo hi (hi -ℤ pos r) (le_makes lo (hi -ℤ pos r) (omega (arith, far, sub_parts_is hi (pos r)))) (le_makes (hi -ℤ pos r) hi (omega (arith, sub_parts_is hi (pos r))))

pub number_fits : (w : Rows) (upward : Bool) (r : ℕ) → Spanned w → r < w.n → SFits w64 (row_number w upward r)
number_fits w true r s h = down_fits w.lo w.hi r (omega (arith, s.all)) s.low s.high
number_fits w false r s h = up_fits w.lo w.hi r (omega (arith, s.all)) s.low s.high

-- the rows of a fill that passed SIZE
pub spanned : (g : Settings) (es : List Edge) → length (row_numbers g es) ≤ 4096 → Spanned (rows_of g es)
unfolding rows_of k_lo k_hi row_numbers
spanned g es h = record {
  low = record { sfits = to_signed_in 63 (ceil (ymin es ⊘ g.spacing ⊖ half)) };
  high = record { sfits = to_signed_in 63 (floor (ymax es ⊘ g.spacing ⊖ half)) };
  all = rw (capped_in 4096 (length (row_numbers g es)) h) (few es);
  few = rw (capped_in 4096 (length (row_numbers g es)) h) h;
}
  where
    few : (es : List Edge) → length (row_numbers g es) ≤ how_many (k_lo g es) (k_hi g es)
    few [] = omega arith
    few (e ∷ es) = omega (arith, through_length (k_lo g (e ∷ es)) (k_hi g (e ∷ es)))
