-- Point by point gives the lines of the definition. Assumes nothing.
use Rattle.std.specs.Prelude.{ℕ, ◌+◌, ◌^◌, ◌≤◌, ◌<◌, ◌≡◌, Bool, cond, Float}
use native.Mathlib.Omega.{arith}
use Rattle.std.proofs.Math.Path.{refl, sym, ap}
use Rattle.std.proofs.Common.{◌∙◌}
use Rattle.std.proofs.Math.Bool.{true, false}
use mathlib.Core.List.{List, [], ◌∷◌, ◌++◌, append_assoc, append-nil}
use Rattle.std.proofs.Math.Dec.{ltb}
use Rattle.std.proofs.Math.ListN.{length, length-append}
use borrow.Author.Tests.{ltb-false}
use Rattle.seqs.specs.Lists.{each}
use Rattle.geom.specs.declared.point.P.{P}
use Rattle.outlines.specs.declared.rule.FillRule.{FillRule}
use Rattle.rules.specs.Calls.{sewn_points, sewn_ends}
use Rattle.patterns_rules.specs.Patterns.{piece_inside, closed, opened, runs_from, clip_inside}
use Rattle.patterns_rules.specs.LineLaws.{points_append, ends_append}
use Rattle.clip.specs.Clip.{added, ended, points_from, ends_from}
use Rattle.clip.specs.ClipLaws.{points_are, ends_are}
use Rattle.meander_rules.specs.declared.Lattice.{Lattice}
use Rattle.meander_rules.specs.Meander.{dense_along, lines_along}
use Rattle.trail.specs.declared.pen.Pen.{Pen}
use Rattle.trail.specs.Trail.{held, nothing, both, run, begin, on_to, finish, clip_line, along_path}
use Rattle.trail.specs.Parts.{held_exact, held_few, held_none, held_on}

module _ (rings : List (List P)) (rule : FillRule) where
  -- ---- the points

  run_points : (line : List P) (s : Pen) → (run (on_to rings rule) line s).points ≡ points_from rings rule s.on s.at line
  unfolding run on_to nothing both points_from
  run_points [] s = refl
  run_points (q ∷ line) s = ap (λ l. added (piece_inside rings rule s.at q) s.on s.at q ++ l) (run_points line (on_to rings rule q s).pen)

  pub line_points : (line : List P) (s : Pen) → (clip_line rings rule line s).points ≡ sewn_points (clip_inside line rings rule)
  unfolding clip_line nothing both finish begin clip_inside sewn_points
  line_points [] s = refl
  line_points (p ∷ line) s =
      append-nil (run (on_to rings rule) line (begin rings rule p s)).points ∙ run_points line (begin rings rule p s) ∙ sym (points_are rings rule false [] refl p line)

  -- ---- the count of them, after a line

  run_count : (line : List P) (s : Pen) → s.points < 2 ^ 64 → (run (on_to rings rule) line s).pen.points ≡ held s.points (length (points_from rings rule s.on s.at line))
  unfolding run on_to nothing both points_from
  run_count [] s h = held_none s.points h
  run_count (q ∷ line) s h =
      let k = piece_inside rings rule s.at q in
      let ps = added k s.on s.at q in
      run_count line (on_to rings rule q s).pen (held_few s.points (length ps)) ∙ held_on s.points (length ps) (length (points_from rings rule k q line)) ∙ ap (held s.points) (sym (length-append ps (points_from rings rule k q line)))

  line_count : (line : List P) (s : Pen) → s.points < 2 ^ 64 → (clip_line rings rule line s).pen.points ≡ held s.points (length (sewn_points (clip_inside line rings rule)))
  unfolding clip_line nothing both finish begin clip_inside sewn_points
  line_count [] s h = held_none s.points h
  line_count (p ∷ line) s h = run_count line (begin rings rule p s) h ∙ ap (λ (l : List P). held s.points (length l)) (sym (points_are rings rule false [] refl p line))

  -- ---- the ends

  run_ends : (line : List P) (s : Pen) → s.points + length (points_from rings rule s.on s.at line) < 2 ^ 64
      → (run (on_to rings rule) line s).ends ++ (finish (run (on_to rings rule) line s).pen).ends ≡ ends_from rings rule s.on s.points s.at line
  unfolding run on_to nothing both finish points_from ends_from
  run_ends [] s h = refl
  run_ends (q ∷ line) s h =
      let k = piece_inside rings rule s.at q in
      let ps = added k s.on s.at q in
      let t = (on_to rings rule q s).pen in
      let a = length-append ps (points_from rings rule k q line) in
      let e : held s.points (length ps) ≡ s.points + length ps = held_exact s.points (length ps) (omega (arith, a)) in
      append_assoc (ended k s.on s.points) (run (on_to rings rule) line t).ends (finish (run (on_to rings rule) line t).pen).ends
      ∙ ap (λ (l : List ℕ). ended k s.on s.points ++ l) (run_ends line t (omega (arith, a, e)) ∙ ap (λ (n : ℕ). ends_from rings rule k n q line) e)

  line_ends : (line : List P) (s : Pen) → s.points + length (sewn_points (clip_inside line rings rule)) < 2 ^ 64 → (clip_line rings rule line s).ends ≡ sewn_ends s.points (clip_inside line rings rule)
  unfolding clip_line nothing both begin clip_inside sewn_ends
  line_ends [] s h = refl
  line_ends (p ∷ line) s h =
      let e : s.points ≡ s.points + 0 = omega arith in
      run_ends line (begin rings rule p s) (rw (points_are rings rule false [] refl p line) at h) ∙ ap (λ (n : ℕ). ends_from rings rule false n p line) e ∙ sym (ends_are rings rule false [] refl s.points p line)

  -- ---- a run has a point at least

  closed_few : (cur : List P) → length (closed cur) ≤ length (sewn_points (closed cur))
  unfolding closed sewn_points
  closed_few cur = go (ltb (length cur) 2) refl
    where
      go : (b : Bool) → ltb (length cur) 2 ≡ b → length (cond b [] (cur ∷ [])) ≤ length (each (λ (l : List P). l) (cond b [] (cur ∷ [])))
      go true e = omega arith
      go false e = omega (arith, ltb-false (length cur) 2 e, length-append cur [])

  few_turn : (k : Bool) (cur : List P) (ls ms : List (List P)) → length ls ≤ length (sewn_points ls) → length ms ≤ length (sewn_points ms) → length (cond k ls (closed cur ++ ms)) ≤ length (sewn_points (cond k ls (closed cur ++ ms)))
  few_turn true cur ls ms g h = g
  few_turn false cur ls ms g h =
      omega (arith, closed_few cur, length-append (closed cur) ms, ap length (points_append (closed cur) ms), length-append (sewn_points (closed cur)) (sewn_points ms))

  runs_few : (cur : List P) (p : P) (line : List P) → length (runs_from rings rule cur p line) ≤ length (sewn_points (runs_from rings rule cur p line))
  unfolding runs_from
  runs_few cur p [] = closed_few cur
  runs_few cur p (q ∷ line) =
      few_turn (piece_inside rings rule p q) cur (runs_from rings rule (opened p cur ++ (q ∷ [])) q line) (runs_from rings rule [] q line) (runs_few (opened p cur ++ (q ∷ [])) q line) (runs_few [] q line)

  line_few : (line : List P) → length (clip_inside line rings rule) ≤ length (sewn_points (clip_inside line rings rule))
  unfolding clip_inside
  line_few [] = omega arith
  line_few (p ∷ line) = runs_few [] p line

  -- ---- all paths

  module _ (g : Lattice) (len : Float) where
    pub paths_points : (paths : List (List ℕ)) (s : Pen) → (run (along_path rings rule g len) paths s).points ≡ sewn_points (each (lines_along rings rule g len) paths)
    unfolding run both nothing along_path lines_along sewn_points
    paths_points [] s = refl
    paths_points (path ∷ paths) s =
        let here = clip_inside (dense_along g len path) rings rule in
        rw (line_points (dense_along g len path) s, paths_points paths (along_path rings rule g len path s).pen) (sym (points_append here (each (lines_along rings rule g len) paths)))

    pub paths_ends : (paths : List (List ℕ)) (s : Pen) → s.points + length (sewn_points (each (lines_along rings rule g len) paths)) < 2 ^ 64 → (run (along_path rings rule g len) paths s).ends ≡ sewn_ends s.points (each (lines_along rings rule g len) paths)
    unfolding run both nothing along_path lines_along sewn_ends
    paths_ends [] s h = refl
    paths_ends (path ∷ paths) s h =
        let here = clip_inside (dense_along g len path) rings rule in
        let later = each (lines_along rings rule g len) paths in
        let a : length (sewn_points (here ++ later)) ≡ length (sewn_points here) + length (sewn_points later) = ap length (points_append here later) ∙ length-append (sewn_points here) (sewn_points later) in
        let t = (along_path rings rule g len path s).pen in
        let e : t.points ≡ s.points + length (sewn_points here) = line_count (dense_along g len path) s (omega (arith, a)) ∙ held_exact s.points (length (sewn_points here)) (omega (arith, a)) in
        rw (line_ends (dense_along g len path) s (omega (arith, a)), paths_ends paths t (omega (arith, a, e)), e) (sym (ends_append s.points here later))

    pub paths_few : (paths : List (List ℕ)) → length (each (lines_along rings rule g len) paths) ≤ length (sewn_points (each (lines_along rings rule g len) paths))
    unfolding lines_along
    paths_few [] = omega arith
    paths_few (path ∷ paths) =
        let here = clip_inside (dense_along g len path) rings rule in
        let later = each (lines_along rings rule g len) paths in
        omega (arith, line_few (dense_along g len path), paths_few paths, length-append here later, ap length (points_append here later), length-append (sewn_points here) (sewn_points later))
