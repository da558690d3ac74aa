-- What is proved of the flat form: the points of a part, and the turns of a loop over corners and over ends. Assumes nothing.
use Rattle.std.specs.Prelude.{ℕ, zero, suc, ◌+◌, ◌-◌, ◌*◌, ◌/◌, ◌%◌, ◌≤◌, ◌<◌, ◌≡◌, true, ◌&&◌, leb, eqb, length, take, drop, get_or, Float}
use native.Mathlib.Omega.{arith}
use Rattle.std.proofs.Math.Path.{refl}
use Rattle.std.proofs.Common.{sym, ap, ◌∙◌, length-drop, get_or-drop, leb-true, eqb-true}
use mathlib.Core.List.{List, [], ◌∷◌}
use Rattle.std.proofs.Math.Seq.{drop-nil, take-nil}
use Rattle.std.specs.Float.Ieee.{nan}
use Rattle.seqs.specs.Front.{next, none}
use Rattle.seqs.specs.Tests.{and_both}
use Rattle.geom.specs.declared.point.P.{P}
use Rattle.geom.specs.Point.{point}
use Rattle.geom.specs.Outline.{points, cut, rising}

-- ---- points

pub points_length : (l : List Float) → length (points l) ≡ length l / 2
unfolding points
points_length [] = refl
points_length (x ∷ []) = refl
points_length (x ∷ y ∷ l) = omega (arith, points_length l)

double : (n : ℕ) → 2 * suc n ≡ suc (suc (2 * n))
double n = omega arith

pub points_drop : (n : ℕ) (l : List Float) → points (drop (2 * n) l) ≡ drop n (points l)
unfolding points
points_drop zero l = refl
points_drop (suc n) [] = rw (drop-nil (2 * suc n))
points_drop (suc n) (x ∷ []) = rw (double n, drop-nil (suc (2 * n)))
points_drop (suc n) (x ∷ y ∷ l) = rw (double n) (points_drop n l)

pub points_take : (n : ℕ) (l : List Float) → points (take (2 * n) l) ≡ take n (points l)
unfolding points
points_take zero l = refl
points_take (suc n) [] = rw (take-nil (2 * suc n))
points_take (suc n) (x ∷ []) = rw (double n, take-nil (suc (2 * n)))
points_take (suc n) (x ∷ y ∷ l) = rw (double n) (ap (λ (r : List P). point x y ∷ r) (points_take n l))

-- corners a to e, lent as a part of the flat list
pub points_part : (a e : ℕ) (l : List Float) → points (take (2 * e - 2 * a) (drop (2 * a) l)) ≡ take (e - a) (drop a (points l))
points_part a e l =
    let q : 2 * e - 2 * a ≡ 2 * (e - a) = omega arith in
    rw (q, points_take (e - a) (drop (2 * a) l), points_drop a l)

-- the corner at place i of the flat list
abbrev pub corner_at : List Float → ℕ → P
corner_at l i = point (get_or l i nan) (get_or l (i + 1) nan)

module _ (l : List Float) (i : ℕ) where
  pub points_next : i + 1 < length l → points (drop i l) ≡ corner_at l i ∷ points (drop (i + 2) l)
  unfolding points
  points_next h =
      let e : i + 1 + 1 ≡ i + 2 = omega arith in
      rw (next l i nan (omega arith), next l (i + 1) nan h, e)

  short : (m : List Float) → length m ≤ 1 → points m ≡ []
  unfolding points
  short [] h = refl
  short (x ∷ []) h = refl
  short (x ∷ y ∷ r) h = absurd (omega arith)

  pub points_end : length l ≤ i + 1 → points (drop i l) ≡ []
  points_end h = short (drop i l) (rw length-drop (omega arith))

pub points_at : (l : List Float) (k : ℕ) (z : P) → 2 * k + 1 < length l → get_or (points l) k z ≡ corner_at l (2 * k)
points_at l k z h =
    let e : k + 0 ≡ k = omega arith in
    rw e at (sym (get_or-drop k (points l) 0 z)) ∙ ap (λ (r : List P). get_or r 0 z) (sym (points_drop k l) ∙ points_next l (2 * k) h)

-- the last corner of an even list
pub points_last : (l : List Float) (z : P) → length l % 2 ≡ 0 → 0 < length l → get_or (points l) (length (points l) - 1) z ≡ corner_at l (length l - 2)
points_last l z even some =
    let e : 2 * (length (points l) - 1) ≡ length l - 2 = omega (arith, points_length l) in
    rw e at (points_at l (length (points l) - 1) z (omega (arith, e)))

-- ---- ends

pub rising_next : (a : ℕ) (l : List ℕ) (k n : ℕ) → k < length l → rising a (drop k l) n ≡ (leb a (get_or l k 0) && rising (get_or l k 0) (drop (k + 1) l) n)
unfolding rising
rising_next a l k n h = rw (next l k 0 h)

pub rising_none : (a : ℕ) (l : List ℕ) (k n : ℕ) → length l ≤ k → rising a (drop k l) n ≡ eqb a n
unfolding rising
rising_none a l k n h = rw (none l k h)

pub rising_le : (a : ℕ) (l : List ℕ) (n : ℕ) → rising a l n ≡ true → a ≤ n
unfolding rising
rising_le a [] n h = omega (arith, eqb-true a n h)
rising_le a (e ∷ l) n h =
    let q = and_both (leb a e) (rising e l n) h in
    omega (arith, leb-true a e q.0, rising_le e l n q.1)

-- what a turn over a ring's end knows
pub record Turn (a e n : ℕ) (rest : List ℕ) : Type 0 where
  pub from : a ≤ e
  pub to : e ≤ n
  pub rise : rising e rest n ≡ true

pub rising_turn : (a : ℕ) (l : List ℕ) (k n : ℕ) → rising a (drop k l) n ≡ true → k < length l → Turn a (get_or l k 0) n (drop (k + 1) l)
rising_turn a l k n h lt =
    let q = and_both (leb a (get_or l k 0)) (rising (get_or l k 0) (drop (k + 1) l) n) (sym (rising_next a l k n lt) ∙ h) in
    record { from = leb-true _ _ q.0; to = rising_le _ _ _ q.1; rise = q.1 }

module _ (a : ℕ) (ends : List ℕ) (k : ℕ) (l : List Float) where
  -- the next ring, as the part of the flat list that is lent
  pub cut_next : k < length ends
      → cut a (drop k ends) (points l) ≡ points (take (2 * get_or ends k 0 - 2 * a) (drop (2 * a) l)) ∷ cut (get_or ends k 0) (drop (k + 1) ends) (points l)
  unfolding cut
  cut_next h = rw (next ends k 0 h, points_part a (get_or ends k 0) l)

  pub cut_none : length ends ≤ k → cut a (drop k ends) (points l) ≡ []
  unfolding cut
  cut_none h = rw (none ends k h)
