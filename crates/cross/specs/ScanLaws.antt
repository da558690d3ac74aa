-- Runs of adjacent cells, found by a scan for the next cell that is inside, and for the next that isn't. Assumes nothing.
use Rattle.std.specs.Prelude.{ℕ, zero, suc, ◌+◌, ◌-◌, ◌≤◌, ◌<◌, ◌≡◌, refl, Bool, true, false, not, List, [], ◌∷◌, ◌*◌, ltb, Float}
use Rattle.std.proofs.Common.{arith, ◌∙◌, inl, inr, ltb-true, ltb-false}
use Rattle.std.proofs.Math.Path.{ap}
use mathlib.Core.Bool.{beq}
use mathlib.Core.List.{map}
use Rattle.std.proofs.Math.ListN.{length, length-append}
use Rattle.seqs.specs.Tests.{either, clash}
use Rattle.geom.specs.declared.point.P.{P}
use Rattle.outlines.specs.declared.rule.FillRule.{FillRule}
use Rattle.rules.specs.Calls.{sewn_points}
use Rattle.patterns_rules.specs.declared.Grid.{Grid}
use Rattle.patterns_rules.specs.Patterns.{cell_inside, out_and_back}
use Rattle.patterns_rules.specs.declared.Run.{Run}
use Rattle.cross.specs.Cells.{runs_in, lines_in, Scan, NextRun}
use Rattle.cross.specs.RowLaws.{row_length}
use Rattle.cross.specs.RunLaws.{runs_none, runs_skip, runs_run}

abbrev run : ℕ → ℕ → Run
run i n = record { first = i; many = n }

module _ (inside : ℕ → Bool) (n : ℕ) where
  -- no cell from i on is inside, up to the first that is
  runs_skips : (k i : ℕ) → i + k ≤ n → ((j : ℕ) → i ≤ j → j < i + k → inside j ≡ false) → runs_in inside n i ≡ runs_in inside n (i + k)
  runs_skips zero i h all = let e : i ≡ i + 0 = omega arith in ap (runs_in inside n) e
  runs_skips (suc k) i h all =
      let e : i + 1 + k ≡ i + suc k = omega arith in
      runs_skip inside n i (omega arith) (all i (omega arith) (omega arith)) ∙ rw e at (runs_skips k (i + 1) (omega arith) (λ j a b. all j (omega arith) (omega arith)))

  scan_skips : {i a : ℕ} → Scan inside n true i a → runs_in inside n i ≡ runs_in inside n a
  scan_skips {i} {a} f =
      let e : i + (a - i) ≡ a = omega (arith, f.low) in
      rw e at (runs_skips (a - i) i (omega (arith, f.low, f.high)) (λ j x y. f.before j x (omega (arith, f.low))))

  -- none is left
  pub scan_none : {i a : ℕ} → Scan inside n true i a → n ≤ a → runs_in inside n i ≡ []
  scan_none {i} {a} f h = scan_skips f ∙ runs_none inside n a h

  -- from a up to b, where the scan stopped
  scan_run : (a b : ℕ) → a < n → inside a ≡ true → Scan inside n false (a + 1) b → runs_in inside n a ≡ run a (b - a) ∷ runs_in inside n (a + (b - a))
  scan_run a b h t s =
      let k = b - (a + 1) in
      let e : a + k + 1 ≡ b = omega (arith, s.low) in
      let c : k + 1 ≡ b - a = omega (arith, s.low) in
      let d : a + (b - a) ≡ b = omega (arith, s.low) in
      rw d (rw (c, e) at (runs_run inside n k a (omega (arith, s.low, s.high)) (λ j x y. here j x (omega (arith, e))) (rw (← e) at s.found)))
    where
      here : (j : ℕ) → a ≤ j → j < b → inside j ≡ true
      here j x y = elim (either (ltb a j)) [
        | inl l ↦ s.before j (omega (arith, ltb-true a j l)) y
        | inr l ↦ let z : j ≡ a = omega (arith, ltb-false a j l) in rw z t
      ]

  pub scan_next : {i a b : ℕ} → Scan inside n true i a → a < n → Scan inside n false (a + 1) b → NextRun inside n i (run a (b - a))
  scan_next {i} {a} {b} f h s = record { low = f.low; high = omega (arith, s.low, s.high); some = omega (arith, s.low); goes = scan_skips f ∙ scan_run a b h (f.found h) s }

-- one cell more
pub all_so : (inside : ℕ → Bool) {v : Bool} (i j : ℕ) → ((t : ℕ) → i ≤ t → t < j → inside t ≡ v) → inside j ≡ v → (t : ℕ) → i ≤ t → t < j + 1 → inside t ≡ v
all_so inside i j all e t a b = elim (either (ltb t j)) [
  | inl l ↦ all t a (ltb-true t j l)
  | inr l ↦ let z : t ≡ j = omega (arith, ltb-false t j l) in rw z e
]

-- a test that is as it should be, or is its other
pub same : (a b : Bool) → beq a b ≡ true → a ≡ b
same true true h = refl
same true false h = clash h refl
same false true h = clash h refl
same false false h = refl

pub other : (a b : Bool) → beq a b ≡ false → a ≡ not b
other true true h = clash refl h
other true false h = refl
other false true h = refl
other false false h = clash refl h

-- ---- the rows of stitches of a row of cells

module _ (rings : List (List P)) (rule : FillRule) (g : Grid) (y : Float) where
  pub lines_left : (i : ℕ) → runs_in (cell_inside rings rule g y) g.columns i ≡ [] → lines_in rings rule g y i ≡ []
  lines_left i e = ap (map (out_and_back g y)) e

  module _ {i : ℕ} {r : Run} (f : NextRun (cell_inside rings rule g y) g.columns i r) where
    pub lines_then : lines_in rings rule g y i ≡ out_and_back g y r ∷ lines_in rings rule g y (r.first + r.many)
    lines_then = ap (map (out_and_back g y)) f.goes

    pub lines_more : length (lines_in rings rule g y i) ≡ 1 + length (lines_in rings rule g y (r.first + r.many))
    lines_more = omega (arith, ap length lines_then)

    pub points_more : length (sewn_points (lines_in rings rule g y i)) ≡ 4 * r.many + length (sewn_points (lines_in rings rule g y (r.first + r.many)))
    unfolding sewn_points
    points_more =
        let rest = lines_in rings rule g y (r.first + r.many) in
        omega (arith, ap (λ (l : List (List P)). length (sewn_points l)) lines_then, length-append (out_and_back g y r) (sewn_points rest), row_length g y r)
