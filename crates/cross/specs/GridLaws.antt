-- Counts of cells that cannot wrap, and that columns and rows have numbers. Assumes nothing.
use Rattle.std.specs.Prelude.{ℕ, ◌+◌, ◌^◌, ◌≤◌, ◌<◌, ◌≡◌, Bool, cond, leb, ℤ, pos, negsuc, nat_abs, ◌+ℤ◌, ◌-ℤ◌, Float}
use Rattle.std.proofs.Common.{arith, sym, ◌∙◌, inl, inr, SFits}
use Rattle.std.proofs.Math.Path.{refl}
use Rattle.std.proofs.Math.Bool.{true, false, and-false}
use Rattle.std.specs.Int.Signed.{le_z, lt_z}
use Rattle.std.specs.Float.Ieee.{to_signed}
use Rattle.std.specs.Float.Ieee.Casts.{to_signed_in}
use borrow.Author.Tests.{le-leb, lt-leb}
use Rattle.std.specs.Int.{w64}
use Rattle.numbers.specs.Num.{◌⊘◌}
use Rattle.numbers.specs.Order.{finite}
use Rattle.numbers.specs.Whole.{floor, ceil}
use Rattle.seqs.specs.Slices.{capped}
use Rattle.seqs.specs.Tests.{either}
use Rattle.seqs.specs.Capped.{capped_in, capped_over, capped_exact, capped_past}
use Rattle.seqs.specs.Ints.{gap, le_makes, lt_says, lt_denies, fits_says, add_parts, fits_between}
use Rattle.limits.specs.Limits.{most_cells}
use Rattle.patterns_rules.specs.declared.Bounds.{Bounds}
use Rattle.patterns_rules.specs.declared.Grid.{Grid}
use Rattle.patterns_rules.specs.Patterns.{up_to, first_cell, past_cell, grid_in}
use Rattle.patterns_rules.specs.Answers.{good_grid}
use Rattle.cross.specs.Cells.{stopped, Laid}

-- ---- counts

less : (lo hi : ℤ) → lt_z lo hi ≡ true → le_z lo hi ≡ true
less lo hi h = le_makes lo hi (omega (arith, lt_says lo hi h))

module _ (lo hi : ℤ) (h : lt_z lo hi ≡ true) where
  many : up_to lo hi ≡ nat_abs (hi -ℤ lo)
  unfolding up_to
  many = rw h

  pub in_order : le_z lo hi ≡ true
  in_order = less lo hi h

  pub many_few : nat_abs (hi -ℤ lo) ≤ most_cells → nat_abs (hi -ℤ lo) ≡ capped most_cells (up_to lo hi)
  many_few k = sym many ∙ sym (capped_in most_cells (up_to lo hi) (omega (arith, many)))

  pub many_over : most_cells < nat_abs (hi -ℤ lo) → most_cells + 1 ≡ capped most_cells (up_to lo hi)
  many_over k = sym (capped_over most_cells (up_to lo hi) (omega (arith, many)))

  -- where the difference is small enough to be worked out
  pub gap_low : lt_z hi (pos 0) ≡ true → SFits w64 lo → nat_abs (hi -ℤ lo) < 2 ^ 63
  gap_low k f = omega (arith, gap lo hi in_order, lt_says hi (pos 0) k, fits_says lo f)

  pub gap_high : lt_z lo (pos 0) ≡ false → SFits w64 hi → nat_abs (hi -ℤ lo) < 2 ^ 63
  gap_high k f = omega (arith, gap lo hi in_order, lt_denies lo (pos 0) k, fits_says hi f)

  pub gap_about : lt_z lo (negsuc 4095) ≡ false → lt_z (pos 4096) hi ≡ false → nat_abs (hi -ℤ lo) < 2 ^ 63
  gap_about k f = omega (arith, gap lo hi in_order, lt_denies lo (negsuc 4095) k, lt_denies (pos 4096) hi f)

  -- and where it is too large to matter
  pub gap_below : lt_z lo (negsuc 4095) ≡ true → lt_z hi (pos 0) ≡ false → 4096 < nat_abs (hi -ℤ lo)
  gap_below k f = omega (arith, gap lo hi in_order, lt_says lo (negsuc 4095) k, lt_denies hi (pos 0) f)

  pub gap_above : lt_z (pos 4096) hi ≡ true → lt_z lo (pos 0) ≡ true → 4096 < nat_abs (hi -ℤ lo)
  gap_above k f = omega (arith, gap lo hi in_order, lt_says (pos 4096) hi k, lt_says lo (pos 0) f)

pub many_none : (lo hi : ℤ) → lt_z lo hi ≡ false → 0 ≡ capped most_cells (up_to lo hi)
unfolding up_to
many_none lo hi h = rw h (sym (capped_in most_cells 0 (omega arith)))

-- ---- numbers

up_fits : (lo hi : ℤ) (i : ℕ) → i < up_to lo hi → SFits w64 lo → SFits w64 hi → SFits w64 (lo +ℤ pos i)
unfolding up_to
up_fits lo hi i h f g = elim (either (lt_z lo hi)) [
  | inl e ↦
      let k = rw e at h in
      fits_between lo hi (lo +ℤ pos i) (le_makes lo (lo +ℤ pos i) (omega (arith, add_parts lo (pos i)))) (le_makes (lo +ℤ pos i) hi (omega (arith, k, gap lo hi (less lo hi e), add_parts lo (pos i)))) f g
  | inr e ↦ absurd (omega (arith, rw e at h))
]

module _ (b : Bounds) (cell : Float) where
  some_fits : (some : Bool) (i : ℕ) (x y : Float) → i < cond some (up_to (first_cell x cell) (past_cell y cell)) 0 → SFits w64 (first_cell x cell +ℤ pos i)
  unfolding first_cell past_cell
  some_fits true i x y h = up_fits (first_cell x cell) (past_cell y cell) i h (record { sfits = to_signed_in 63 (floor (x ⊘ cell)) }) (record { sfits = to_signed_in 63 (ceil (y ⊘ cell)) })
  some_fits false i x y h = absurd (omega arith)

  pub laid : (grid_in b cell).columns ≤ most_cells → (grid_in b cell).rows ≤ most_cells → Laid (grid_in b cell)
  unfolding grid_in first_cell
  laid h k = record {
    left = record { sfits = to_signed_in 63 (floor (b.left ⊘ cell)) };
    top = record { sfits = to_signed_in 63 (floor (b.top ⊘ cell)) };
    column = λ i g. some_fits (finite b.left) i b.left b.right g;
    row = λ r g. some_fits (finite b.left) r b.top b.bottom g;
    columns = h;
    rows = k;
  }

-- ---- the stopped counts compared with 4,096

module _ (g : Grid) where
  pub stopped_is : (stopped g).columns ≤ most_cells → (stopped g).rows ≤ most_cells → stopped g ≡ g
  stopped_is h k = rw (capped_exact most_cells g.columns refl h, capped_exact most_cells g.rows refl k)

  pub wide : most_cells < (stopped g).columns → good_grid g ≡ false
  unfolding good_grid
  wide h = rw (lt-leb g.columns most_cells (capped_past most_cells g.columns refl h))

  pub tall : most_cells < (stopped g).rows → good_grid g ≡ false
  unfolding good_grid
  tall h = rw (lt-leb g.rows most_cells (capped_past most_cells g.rows refl h)) (and-false (leb g.columns most_cells))

  pub small : g.columns ≤ most_cells → g.rows ≤ most_cells → good_grid g ≡ true
  unfolding good_grid
  small h k = rw (le-leb g.columns most_cells h, le-leb g.rows most_cells k)

-- what the calls on the way to the grid give, put together
module _ (b : Bounds) (cell : Float) {l t : ℤ} {fl ft : Float} (f₁ : fl ≡ floor (b.left ⊘ cell)) (l₁ : l ≡ to_signed 63 fl) (f₂ : ft ≡ floor (b.top ⊘ cell)) (t₁ : t ≡ to_signed 63 ft) where
  pub grid_some : finite b.left ≡ true → {r d : ℤ} {cr cd : Float} → cr ≡ ceil (b.right ⊘ cell) → r ≡ to_signed 63 cr → cd ≡ ceil (b.bottom ⊘ cell) → d ≡ to_signed 63 cd
      → {n m : ℕ} → n ≡ capped most_cells (up_to l r) → m ≡ capped most_cells (up_to t d) → record { cell = cell; left = l; columns = n; top = t; rows = m } ≡ stopped (grid_in b cell)
  unfolding grid_in first_cell past_cell
  grid_some e c₁ r₁ c₂ d₁ n₁ m₁ = rw (n₁, m₁, l₁, t₁, r₁, d₁, f₁, f₂, c₁, c₂, e)

  pub grid_none : finite b.left ≡ false → record { cell = cell; left = l; columns = 0; top = t; rows = 0 } ≡ stopped (grid_in b cell)
  unfolding grid_in first_cell past_cell
  grid_none e = rw (l₁, t₁, f₁, f₂, e, capped_in most_cells 0 (omega arith))
