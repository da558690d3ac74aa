-- All walks: what the counts say of the lines, and what stands in the slices where there is room. Assumes nothing.
use Rattle.std.specs.Prelude.{ℕ, ◌+◌, ◌*◌, ◌/◌, ◌^◌, ◌≤◌, ◌<◌, ◌≡◌, length, drop, Float}
use Rattle.std.proofs.Common.{arith, ap, ◌∙◌}
use Rattle.std.proofs.Math.Path.{subst}
use mathlib.Core.List.{List, ◌++◌}
use Rattle.refusal.specs.Refusal.{DONE}
use Rattle.seqs.specs.Lists.{each}
use Rattle.seqs.specs.Slices.{Wrote}
use Rattle.geom.specs.declared.point.P.{P}
use Rattle.geom.specs.Sewing.{flat}
use Rattle.geom.specs.SewingLaws.{flat_length}
use Rattle.outlines.specs.declared.rule.FillRule.{FillRule}
use Rattle.rules.specs.Calls.{sewn_points, sewn_ends}
use Rattle.rules.specs.CallLaws.{ends_length}
use Rattle.patterns_rules.specs.Answers.{left_points, left_ends}
use Rattle.meander_rules.specs.declared.Lattice.{Lattice}
use Rattle.meander_rules.specs.Meander.{lines_along}
use Rattle.trail.specs.declared.pen.Pen.{Pen}
use Rattle.trail.specs.Trail.{held, run, along_path, Sewed, Counted}
use Rattle.trail.specs.Parts.{held_exact, held_back}
use Rattle.trail.specs.Runs.{paths_points, paths_ends, paths_few}

at_front {ℓ} : {A : Type ℓ} {d d' m : List A} → Wrote d d' 0 m → length m ≤ length d → d' ≡ m ++ drop (length m) d
at_front {d = d} {m = m} w h = let z : 0 + length m ≡ length m = omega arith in w.is (omega arith) ∙ ap (λ (k : ℕ). m ++ drop k d) z

module _ (rings : List (List P)) (rule : FillRule) (g : Lattice) (len : Float) (paths : List (List ℕ)) (s : Pen) {r : Pen} {out out' : List Float} {ends ends' : List ℕ} (none : s.points ≡ 0) (no : s.lines ≡ 0) (w : Sewed (run (along_path rings rule g len) paths s) s r out out' ends ends') where
  told : r.points ≡ held 0 (length (sewn_points (each (lines_along rings rule g len) paths)))
  told =
      w.count ∙ ap (λ (n : ℕ). held n (length (run (along_path rings rule g len) paths s).points)) none
      ∙ ap (λ (l : List P). held 0 (length l)) (paths_points rings rule g len paths s)

  -- with few points the ends are those of the lines
  ends_told : length (sewn_points (each (lines_along rings rule g len) paths)) < 2 ^ 64 → (run (along_path rings rule g len) paths s).ends ≡ sewn_ends 0 (each (lines_along rings rule g len) paths)
  ends_told h = paths_ends rings rule g len paths s (omega arith) ∙ ap (λ (n : ℕ). sewn_ends n (each (lines_along rings rule g len) paths)) none

  lines_told : r.points + 1 < 2 ^ 64 → r.lines ≡ length (each (lines_along rings rule g len) paths)
  lines_told h =
      let ls = each (lines_along rings rule g len) paths in
      let e = held_back 0 (length (sewn_points ls)) (omega (arith, told)) in
      let f : length (sewn_points ls) < 2 ^ 64 = omega (arith, told, e) in
      let n : length (run (along_path rings rule g len) paths s).ends ≡ length ls = ap length (ends_told f) ∙ ends_length 0 ls in
      w.lines ∙ ap (λ (k : ℕ). held k (length (run (along_path rings rule g len) paths s).ends)) no ∙ ap (held 0) n ∙ held_exact 0 (length ls) (omega (arith, paths_few rings rule g len paths)) ∙ omega arith

  pub counts : Counted (each (lines_along rings rule g len) paths) (record { lines = r.lines; points = r.points })
  counts = record { points = told; lines = lines_told }

  module _ (few : length (sewn_points (each (lines_along rings rule g len) paths)) ≤ length out / 2) (long : length out < 2 ^ 64) where
    pub points_left_lem : out' ≡ left_points DONE (each (lines_along rings rule g len) paths) out
    unfolding left_points
    points_left_lem =
        let ls = each (lines_along rings rule g len) paths in
        let p : Wrote out out' 0 (flat (sewn_points ls)) = subst (λ (l : List P). Wrote out out' 0 (flat l)) (paths_points rings rule g len paths s) (subst (λ (n : ℕ). Wrote out out' (2 * n) (flat (run (along_path rings rule g len) paths s).points)) none w.points) in
        at_front p (omega (arith, flat_length (sewn_points ls)))

    pub ends_left : length (each (lines_along rings rule g len) paths) ≤ length ends → ends' ≡ left_ends DONE (each (lines_along rings rule g len) paths) ends
    unfolding left_ends
    ends_left fit =
        let ls = each (lines_along rings rule g len) paths in
        let p : Wrote ends ends' 0 (sewn_ends 0 ls) = subst (λ (l : List ℕ). Wrote ends ends' 0 l) (ends_told (omega arith)) (subst (λ (n : ℕ). Wrote ends ends' n (run (along_path rings rule g len) paths s).ends) no w.stops) in
        at_front p (omega (arith, ends_length 0 ls))
