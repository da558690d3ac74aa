-- Point by point gives the points and the ends of the definition's runs. Assumes nothing.
use Rattle.std.specs.Prelude.{ℕ, ◌+◌, ◌*◌, ◌/◌, ◌≤◌, ◌<◌, ◌≡◌, Bool, cond, ltb, drop, Float}
use native.Mathlib.Omega.{arith}
use Rattle.std.proofs.Math.Path.{refl, ap}
use Rattle.std.proofs.Common.{sym, ◌∙◌, length-drop, le-ltb, ltb-true, ltb-false}
use Rattle.std.proofs.Math.Bool.{true, false}
use Rattle.std.proofs.Math.Logic.{inl, inr}
use mathlib.Core.List.{List, [], ◌∷◌, ◌++◌, append_assoc}
use Rattle.std.proofs.Math.ListN.{length, length-append}
use Rattle.seqs.specs.Tests.{either}
use Rattle.geom.specs.declared.point.P.{P}
use Rattle.outlines.specs.declared.rule.FillRule.{FillRule}
use Rattle.geom.specs.Outline.{points, rings}
use Rattle.geom.specs.OutlineLaws.{corner_at, points_length, points_next, points_end}
use Rattle.rules.specs.Calls.{sewn_points, sewn_ends}
use Rattle.rules.specs.CallLaws.{ends_length}
use Rattle.patterns_rules.specs.Patterns.{piece_inside, closed, opened, runs_from, clip_inside}
use Rattle.clip.specs.Clip.{clipped, added, ended, points_from, ends_from}

-- the run so far: two points or more where one is on, and none where none is
abbrev pub Cur : Bool → List P → Type 0
Cur true cur = 2 ≤ length cur
Cur false cur = cur ≡ []

closed_on : (cur : List P) → Cur true cur → closed cur ≡ cur ∷ []
unfolding closed
closed_on cur h = rw (le-ltb (length cur) 2 h)

closed_off : (cur : List P) → Cur false cur → closed cur ≡ []
unfolding closed
closed_off cur h = rw h

opened_on : (on : Bool) (cur : List P) → Cur on cur → (p q : P) → opened p cur ++ (q ∷ []) ≡ cur ++ added true on p q
unfolding opened
opened_on true [] h p q = absurd (omega arith)
opened_on true (c ∷ cur) h p q = refl
opened_on false [] h p q = refl
opened_on false (c ∷ cur) h p q = absurd (omega (arith, ap length h))

opened_two : (on : Bool) (cur : List P) → Cur on cur → (p q : P) → Cur true (opened p cur ++ (q ∷ []))
unfolding opened
opened_two true [] h p q = absurd (omega arith)
opened_two true (c ∷ cur) h p q = omega (arith, length-append cur (q ∷ []))
opened_two false [] h p q = omega arith
opened_two false (c ∷ cur) h p q = absurd (omega (arith, ap length h))

module _ (rings : List (List P)) (rule : FillRule) where
  points_turn : (k on : Bool) (cur : List P) → Cur on cur → (p q : P) (line : List P)
      → ((on : Bool) (cur : List P) → Cur on cur → sewn_points (runs_from rings rule cur q line) ≡ cur ++ points_from rings rule on q line)
      → sewn_points (cond k (runs_from rings rule (opened p cur ++ (q ∷ [])) q line) (closed cur ++ runs_from rings rule [] q line)) ≡ cur ++ (added k on p q ++ points_from rings rule k q line)
  unfolding sewn_points
  points_turn true on cur h p q line ih =
      ih true (opened p cur ++ (q ∷ [])) (opened_two on cur h p q) ∙ rw (opened_on on cur h p q) (append_assoc cur (added true on p q) (points_from rings rule true q line))
  points_turn false true cur h p q line ih = rw (closed_on cur h) (ap (λ r. cur ++ r) (ih false [] refl))
  points_turn false false cur h p q line ih = rw (closed_off cur h, h) (ih false [] refl)

  pub points_are : (on : Bool) (cur : List P) → Cur on cur → (p : P) (line : List P) → sewn_points (runs_from rings rule cur p line) ≡ cur ++ points_from rings rule on p line
  unfolding sewn_points runs_from points_from
  points_are true cur h p [] = rw (closed_on cur h)
  points_are false cur h p [] = rw (closed_off cur h, h)
  points_are on cur h p (q ∷ line) = points_turn (piece_inside rings rule p q) on cur h p q line (λ on cur h. points_are on cur h q line)

  ends_turn : (k on : Bool) (cur : List P) → Cur on cur → (n : ℕ) (p q : P) (line : List P)
      → ((on : Bool) (cur : List P) → Cur on cur → (n : ℕ) → sewn_ends n (runs_from rings rule cur q line) ≡ ends_from rings rule on (n + length cur) q line)
      → sewn_ends n (cond k (runs_from rings rule (opened p cur ++ (q ∷ [])) q line) (closed cur ++ runs_from rings rule [] q line)) ≡ ended k on (n + length cur) ++ ends_from rings rule k (n + length cur + length (added k on p q)) q line
  unfolding sewn_ends
  ends_turn true on cur h n p q line ih =
      let a : n + length (cur ++ added true on p q) ≡ n + length cur + length (added true on p q) = omega (arith, length-append cur (added true on p q)) in
      ih true (opened p cur ++ (q ∷ [])) (opened_two on cur h p q) n ∙ rw (opened_on on cur h p q, a)
  ends_turn false true cur h n p q line ih = rw (closed_on cur h) (ap (λ r. (n + length cur) ∷ r) (ih false [] refl (n + length cur)))
  ends_turn false false cur h n p q line ih = rw (closed_off cur h, h) (ih false [] refl n ∙ ap (λ (m : ℕ). ends_from rings rule false m q line) (omega arith))

  pub ends_are : (on : Bool) (cur : List P) → Cur on cur → (n : ℕ) (p : P) (line : List P) → sewn_ends n (runs_from rings rule cur p line) ≡ ends_from rings rule on (n + length cur) p line
  unfolding sewn_ends runs_from ends_from
  ends_are true cur h n p [] = rw (closed_on cur h)
  ends_are false cur h n p [] = rw (closed_off cur h)
  ends_are on cur h n p (q ∷ line) = ends_turn (piece_inside rings rule p q) on cur h n p q line (λ on cur h n. ends_are on cur h n q line)

  -- each piece adds two points and closes one run at most
  pub added_few : (k on : Bool) (p q : P) → length (added k on p q) ≤ 2
  added_few true true p q = omega arith
  added_few true false p q = omega arith
  added_few false on p q = omega arith

  pub ended_few : (k on : Bool) (n : ℕ) → length (ended k on n) ≤ 1
  ended_few true on n = omega arith
  ended_few false true n = omega arith
  ended_few false false n = omega arith

  points_few : (on : Bool) (p : P) (line : List P) → length (points_from rings rule on p line) ≤ 2 * length line
  unfolding points_from
  points_few on p [] = omega arith
  points_few on p (q ∷ line) =
      let k = piece_inside rings rule p q in
      omega (arith, length-append (added k on p q) (points_from rings rule k q line), added_few k on p q, points_few k q line)

  ends_few : (on : Bool) (n : ℕ) (p : P) (line : List P) → length (ends_from rings rule on n p line) ≤ length line + 1
  unfolding ends_from
  ends_few on n p [] = omega (arith, ended_few false on n)
  ends_few on n p (q ∷ line) =
      let k = piece_inside rings rule p q in
      let m = n + length (added k on p q) in
      omega (arith, length-append (ended k on n) (ends_from rings rule k m q line), ended_few k on n, ends_few k m q line)

-- ---- the line as a flat list

module _ (l : List Float) (corners : List Float) (ends : List ℕ) (rule : FillRule) where
  pub clip_none : length l < 2 → clipped l corners ends rule ≡ []
  unfolding clip_inside
  clip_none h = rw (points_end l 0 (omega arith))

  module _ (h : 1 < length l) where
    start : clipped l corners ends rule ≡ runs_from (rings corners ends) rule [] (corner_at l 0) (points (drop 2 l))
    unfolding clip_inside
    start = rw (points_next l 0 h)

    pub clip_points_lem : sewn_points (clipped l corners ends rule) ≡ points_from (rings corners ends) rule false (corner_at l 0) (points (drop 2 l))
    clip_points_lem = ap sewn_points start ∙ points_are (rings corners ends) rule false [] refl (corner_at l 0) (points (drop 2 l))

    pub clip_ends_lem : sewn_ends 0 (clipped l corners ends rule) ≡ ends_from (rings corners ends) rule false 0 (corner_at l 0) (points (drop 2 l))
    clip_ends_lem = ap (sewn_ends 0) start ∙ ends_are (rings corners ends) rule false [] refl 0 (corner_at l 0) (points (drop 2 l))

    pub clip_lines : length (clipped l corners ends rule) ≡ length (ends_from (rings corners ends) rule false 0 (corner_at l 0) (points (drop 2 l)))
    clip_lines = sym (ends_length 0 (clipped l corners ends rule)) ∙ ap length clip_ends_lem

    -- so a line of n numbers has n points and n / 2 runs inside at most
    pub clip_few : (length (sewn_points (clipped l corners ends rule)) ≤ length l) × (length (clipped l corners ends rule) ≤ length l / 2)
    clip_few =
        let rest = points (drop 2 l) in
        let n = points_length (drop 2 l) in
        (omega (arith, ap length clip_points_lem, points_few (rings corners ends) rule false (corner_at l 0) rest, n, length-drop 2 l), omega (arith, clip_lines, ends_few (rings corners ends) rule false 0 (corner_at l 0) rest, n, length-drop 2 l))

  pub clip_most : (length (sewn_points (clipped l corners ends rule)) ≤ length l) × (length (clipped l corners ends rule) ≤ length l / 2)
  unfolding sewn_points
  clip_most = elim (either (ltb (length l) 2)) [
    | inl e ↦ rw (clip_none (ltb-true (length l) 2 e)) (omega arith, omega arith)
    | inr e ↦ clip_few (ltb-false (length l) 2 e)
  ]

  module _ (on : Bool) (p : P) (i : ℕ) where
    module _ (h : i + 1 < length l) {k : Bool} {q : P} (e : q ≡ corner_at l i) (t : k ≡ piece_inside (rings corners ends) rule p q) where
      pub points_step : points_from (rings corners ends) rule on p (points (drop i l)) ≡ added k on p q ++ points_from (rings corners ends) rule k q (points (drop (i + 2) l))
      unfolding points_from
      points_step = rw (points_next l i h, ← e, ← t)

      pub ends_step : (n : ℕ) → ends_from (rings corners ends) rule on n p (points (drop i l)) ≡ ended k on n ++ ends_from (rings corners ends) rule k (n + length (added k on p q)) q (points (drop (i + 2) l))
      unfolding ends_from
      ends_step n = rw (points_next l i h, ← e, ← t)

    pub points_stop : length l ≤ i + 1 → points_from (rings corners ends) rule on p (points (drop i l)) ≡ []
    unfolding points_from
    points_stop h = rw (points_end l i h)

    pub ends_stop : (n : ℕ) → length l ≤ i + 1 → ends_from (rings corners ends) rule on n p (points (drop i l)) ≡ ended false on n
    unfolding ends_from
    ends_stop n h = rw (points_end l i h)
