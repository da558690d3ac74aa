-- Rows of stitches: their counts, and the turns of the loops that count and write them. Assumes nothing.
use Rattle.std.specs.Prelude.{ℕ, ◌+◌, ◌-◌, ◌*◌, ◌≤◌, ◌<◌, ◌≡◌, drop, get_or, Float}
use native.Mathlib.Omega.{arith}
use Rattle.std.proofs.Math.Path.{refl, ap}
use Rattle.std.proofs.Common.{◌∙◌}
use mathlib.Core.List.{List, [], ◌∷◌, ◌++◌, map, reverse}
use Rattle.std.proofs.Math.ListN.{length, length-append, length-reverse}
use Rattle.seqs.specs.Lists.{upto, each}
use Rattle.seqs.specs.Each.{each_length}
use Rattle.seqs.specs.Upto.{upto_length, upto_at, upto_next, upto_none}
use Rattle.seqs.specs.Front.{next, none}
use Rattle.seqs.specs.Reverse.{get_d_reverse}
use Rattle.geom.specs.declared.point.P.{P}
use Rattle.outlines.specs.declared.rule.FillRule.{FillRule}
use Rattle.rules.specs.Calls.{sewn_points}
use Rattle.patterns_rules.specs.declared.Grid.{Grid}
use Rattle.patterns_rules.specs.declared.Run.{Run}
use Rattle.patterns_rules.specs.Patterns.{y_at, cell_inside, out_over, back_over, out_and_back, row_runs, row_lines, stitched}
use Rattle.cross.specs.Cells.{Next, lines_in}
use Rattle.cross.specs.RunLaws.{runs_none}

-- ---- one run

module _ (g : Grid) (y : Float) where
  pub out_two : (i : ℕ) → length (out_over g y i) ≡ 2
  unfolding out_over
  out_two i = refl

  pub back_two : (i : ℕ) → length (back_over g y i) ≡ 2
  unfolding back_over
  back_two i = refl

  pub half_out : (cells : List ℕ) → length (each (out_over g y) cells) ≡ 2 * length cells
  half_out cells = each_length (out_over g y) 2 out_two cells

  pub half_back : (cells : List ℕ) → length (each (back_over g y) cells) ≡ 2 * length cells
  half_back cells = each_length (back_over g y) 2 back_two cells

  pub row_length : (r : Run) → length (out_and_back g y r) ≡ 4 * r.many
  unfolding out_and_back
  row_length r =
      let cells = upto r.first r.many in
      length-append (each (out_over g y) cells) (each (back_over g y) (reverse cells))
      ∙ omega (arith, half_out cells, half_back (reverse cells), length-reverse cells, upto_length r.first r.many)

  -- cell t of a run on the way out, and on the way back
  module _ (a k t : ℕ) (h : t < k) where
    pub out_next : each (out_over g y) (drop t (upto a k)) ≡ out_over g y (a + t) ++ each (out_over g y) (drop (t + 1) (upto a k))
    out_next = ap (each (out_over g y)) (next (upto a k) t 0 (omega (arith, upto_length a k))) ∙ rw (upto_at a k t 0 h)

    pub back_next : each (back_over g y) (drop t (reverse (upto a k))) ≡ back_over g y (a + (k - 1 - t)) ++ each (back_over g y) (drop (t + 1) (reverse (upto a k)))
    back_next =
        let n = length-reverse (upto a k) ∙ upto_length a k in
        let r : get_or (reverse (upto a k)) t 0 ≡ a + (k - 1 - t) = get_d_reverse (upto a k) t 0 (omega (arith, upto_length a k)) ∙ rw (upto_length a k) (upto_at a k (k - 1 - t) 0 (omega arith)) in
        ap (each (back_over g y)) (next (reverse (upto a k)) t 0 (omega (arith, n))) ∙ rw r

  pub out_none : (a k t : ℕ) → k ≤ t → each (out_over g y) (drop t (upto a k)) ≡ []
  out_none a k t h = ap (each (out_over g y)) (none (upto a k) t (omega (arith, upto_length a k)))

  pub back_none : (a k t : ℕ) → k ≤ t → each (back_over g y) (drop t (reverse (upto a k))) ≡ []
  back_none a k t h = ap (each (back_over g y)) (none (reverse (upto a k)) t (omega (arith, length-reverse (upto a k), upto_length a k)))

-- ---- the rows of a row of cells

module _ (rings : List (List P)) (rule : FillRule) (g : Grid) (y : Float) where
  pub lines_start : row_lines rings rule g y ≡ lines_in rings rule g y 0
  unfolding row_lines row_runs
  lines_start = let e : g.columns - 0 ≡ g.columns = omega arith in rw e

  pub lines_none : (i : ℕ) → g.columns ≤ i → lines_in rings rule g y i ≡ []
  lines_none i h = ap (map (out_and_back g y)) (runs_none (cell_inside rings rule g y) g.columns i h)

  module _ {i : ℕ} {r : Run} (f : Next (cell_inside rings rule g y) g.columns i r) where
    pub lines_ended : r.many ≡ 0 → lines_in rings rule g y i ≡ []
    lines_ended e = ap (map (out_and_back g y)) (f.ends e)

    pub lines_next : 0 < r.many → lines_in rings rule g y i ≡ out_and_back g y r ∷ lines_in rings rule g y (r.first + r.many)
    lines_next h = ap (map (out_and_back g y)) (f.goes h)

    pub lines_count : 0 < r.many → length (lines_in rings rule g y i) ≡ 1 + length (lines_in rings rule g y (r.first + r.many))
    lines_count h = omega (arith, ap length (lines_next h))

    pub points_count : 0 < r.many → length (sewn_points (lines_in rings rule g y i)) ≡ 4 * r.many + length (sewn_points (lines_in rings rule g y (r.first + r.many)))
    unfolding sewn_points
    points_count h =
        let rest = lines_in rings rule g y (r.first + r.many) in
        omega (arith, ap (λ (l : List (List P)). length (sewn_points l)) (lines_next h), length-append (out_and_back g y r) (sewn_points rest), row_length g y r)

-- ---- all rows

abbrev pub rows_in : List (List P) → FillRule → Grid → ℕ → List (List P)
rows_in rings rule g r = each (λ r. row_lines rings rule g (y_at g r)) (upto r (g.rows - r))

module _ (rings : List (List P)) (rule : FillRule) (g : Grid) where
  pub rows_start : stitched rings rule g ≡ rows_in rings rule g 0
  unfolding stitched
  rows_start = let e : g.rows - 0 ≡ g.rows = omega arith in rw e

  pub rows_next : (r : ℕ) → r < g.rows → rows_in rings rule g r ≡ row_lines rings rule g (y_at g r) ++ rows_in rings rule g (r + 1)
  rows_next r h = ap (each (λ (r : ℕ). row_lines rings rule g (y_at g r))) (upto_next g.rows r h)

  pub rows_none : (r : ℕ) → g.rows ≤ r → rows_in rings rule g r ≡ []
  rows_none r h = ap (each (λ (r : ℕ). row_lines rings rule g (y_at g r))) (upto_none g.rows r h)
