-- How many points and rows a grid can have at most. Assumes nothing.
use Prim.Native.Nat.{ℕ, zero, suc, ◌+◌, ◌*◌, ◌≤◌}
use native.Mathlib.Omega.{arith}
use Rattle.std.proofs.Math.Nat.{suc-mul}
use Rattle.std.specs.Prelude.{◌≡◌, Bool, eqb, Float}
use Rattle.std.proofs.Math.Path.{refl, ap}
use Rattle.std.proofs.Common.{◌∙◌}
use Rattle.std.proofs.Math.Logic.{inl, inr}
use mathlib.Core.List.{List, [], ◌∷◌, map}
use Rattle.std.proofs.Math.ListN.{length, length-append, length-map}
use Rattle.seqs.specs.Lists.{upto, sift, each}
use Rattle.seqs.specs.Tests.{either}
use Rattle.seqs.specs.Upto.{upto_length}
use Rattle.geom.specs.declared.point.P.{P}
use Rattle.outlines.specs.declared.rule.FillRule.{FillRule}
use Rattle.rules.specs.Calls.{sewn_points}
use Rattle.patterns_rules.specs.declared.Grid.{Grid}
use Rattle.patterns_rules.specs.declared.Run.{Run}
use Rattle.patterns_rules.specs.LineLaws.{points_append}
use Rattle.patterns_rules.specs.Patterns.{joined, runs, cell_inside, out_and_back, row_runs, row_lines, y_at, stitched}
use Rattle.cross.specs.RowLaws.{row_length}

sift_few : (p : ℕ → Bool) (l : List ℕ) → length (sift p l) ≤ length l
sift_few p [] = omega arith
sift_few p (a ∷ l) = elim (either (p a)) [ inl e ↦ rw e (omega (arith, sift_few p l)) | inr e ↦ rw e (omega (arith, sift_few p l)) ]

module _ (g : Grid) (y : Float) where
  points : List Run → ℕ
  unfolding sewn_points
  points rs = length (sewn_points (map (out_and_back g y) rs))

  points_none : points [] ≡ 0
  unfolding points sewn_points
  points_none = refl

  points_cons : (r : Run) (rs : List Run) → points (r ∷ rs) ≡ 4 * r.many + points rs
  unfolding points sewn_points
  points_cons r rs = omega (arith, length-append (out_and_back g y r) (sewn_points (map (out_and_back g y) rs)), row_length g y r)

  -- a cell more is four points more, and a run more at most
  joined_points : (i : ℕ) (rs : List Run) → points (joined i rs) ≡ 4 + points rs
  unfolding joined
  joined_points i [] = points_cons (record { first = i; many = 1 }) []
  joined_points i (r ∷ rs) = elim (either (eqb r.first (i + 1))) [
    | inl e ↦ rw e (omega (arith, points_cons (record { first = i; many = r.many + 1 }) rs, points_cons r rs))
    | inr e ↦ rw e (points_cons (record { first = i; many = 1 }) (r ∷ rs))
  ]

  joined_lines : (i : ℕ) (rs : List Run) → length (joined i rs) ≤ 1 + length rs
  unfolding joined
  joined_lines i [] = omega arith
  joined_lines i (r ∷ rs) = elim (either (eqb r.first (i + 1))) [ inl e ↦ rw e (omega arith) | inr e ↦ rw e (omega arith) ]

  runs_points : (cells : List ℕ) → points (runs cells) ≡ 4 * length cells
  unfolding runs
  runs_points [] = points_none
  runs_points (i ∷ cells) = omega (arith, joined_points i (runs cells), runs_points cells)

  runs_lines : (cells : List ℕ) → length (runs cells) ≤ length cells
  unfolding runs
  runs_lines [] = omega arith
  runs_lines (i ∷ cells) = omega (arith, joined_lines i (runs cells), runs_lines cells)

module _ (rings : List (List P)) (rule : FillRule) (g : Grid) where
  row_most : (y : Float) → (length (sewn_points (row_lines rings rule g y)) ≤ 4 * g.columns) × (length (row_lines rings rule g y) ≤ g.columns)
  unfolding row_lines row_runs points
  row_most y =
      let cells = sift (cell_inside rings rule g y) (upto 0 g.columns) in
      let few = sift_few (cell_inside rings rule g y) (upto 0 g.columns) in
      (omega (arith, runs_points g y cells, few, upto_length 0 g.columns), omega (arith, length-map (runs cells) (out_and_back g y), runs_lines g y cells, few, upto_length 0 g.columns))

  all : ℕ → ℕ → List (List P)
  all r n = each (λ r. row_lines rings rule g (y_at g r)) (upto r n)

  all_points : (r n : ℕ) → length (sewn_points (all r n)) ≤ n * (4 * g.columns)
  unfolding all
  all_points r zero = unfold sewn_points in omega arith
  all_points r (suc n) =
      let row = row_lines rings rule g (y_at g r) in
      let rest = all (r + 1) n in
      omega (arith, ap length (points_append row rest) ∙ length-append (sewn_points row) (sewn_points rest), row_most (y_at g r), all_points (r + 1) n, suc-mul n (4 * g.columns))

  all_lines : (r n : ℕ) → length (all r n) ≤ n * g.columns
  unfolding all
  all_lines r zero = omega arith
  all_lines r (suc n) =
      let row = row_lines rings rule g (y_at g r) in
      let rest = all (r + 1) n in
      omega (arith, length-append row rest, row_most (y_at g r), all_lines (r + 1) n, suc-mul n g.columns)

  pub points_most : length (sewn_points (stitched rings rule g)) ≤ g.rows * (4 * g.columns)
  unfolding stitched all
  points_most = all_points 0 g.rows

  pub lines_most : length (stitched rings rule g) ≤ g.rows * g.columns
  unfolding stitched all
  lines_most = all_lines 0 g.rows
