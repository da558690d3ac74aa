-- What is proved of a walk along the windows of a flat list: its turns. Assumes nothing.
use Prim.Native.Nat.{ℕ, ◌+◌, ◌-◌, ◌≤◌, ◌<◌}
use Rattle.std.specs.Prelude.{◌≡◌, Bool, true, false, ◌&&◌, List, [], ◌∷◌, ltb, length, drop, Float}
use Rattle.std.proofs.Common.{sym, ap, ◌∙◌, ltb-true}
use Rattle.std.specs.Float.Ieee.{lt}
use Rattle.numbers.specs.Num.{◌⊕◌, ◌⊖◌}
use Rattle.seqs.specs.Tests.{and_both}
use Rattle.geom.specs.declared.point.P.{P}
use Rattle.geom.specs.Outline.{points}
use Rattle.geom.specs.OutlineLaws.{corner_at, points_next, points_end}
use Rattle.polyline.specs.Line.{shortest}
use Rattle.satinrules.specs.Pairs.{grows, kept, centre, centres_from, place_at, in_window, windows}
use Rattle.pairing.specs.WalkLaws.{window_goes, window_over}
use Rattle.pairing.specs.Walking.{Walk, rest_of, later_of, left_of, walk_at, goes_on}

-- ---- the sync points that are kept

module _ (ends p : P) (sync : List Float) (i : ℕ) where
  pub kept_grows : i + 1 < length sync → grows ends p (corner_at sync i) ≡ true → kept ends p (points (drop i sync)) ≡ corner_at sync i ∷ kept ends (corner_at sync i) (points (drop (i + 2) sync))
  unfolding kept
  kept_grows h e = rw (points_next sync i h, e)

  pub kept_skips : i + 1 < length sync → grows ends p (corner_at sync i) ≡ false → kept ends p (points (drop i sync)) ≡ kept ends p (points (drop (i + 2) sync))
  unfolding kept
  kept_skips h e = rw (points_next sync i h, e)

  pub kept_ends_lem : length sync ≤ i + 1 → kept ends p (points (drop i sync)) ≡ ends ∷ []
  unfolding kept
  kept_ends_lem h = rw (points_end sync i h)

-- ---- the windows

module _ (step : Float) (ends : P) (sync : List Float) (k : Walk) where
  pub walk_over : goes_on k ≡ false → left_of step ends sync k ≡ windows step k.to (later_of ends sync k) (k.s ⊖ centre k.from k.to) k.left
  unfolding left_of goes_on
  walk_over e = window_over step k.from k.to (windows step k.to (later_of ends sync k)) k.s k.left e

  pub walk_ends : goes_on k ≡ false → k.last ≡ true → left_of step ends sync k ≡ []
  unfolding rest_of windows
  walk_ends e l = walk_over e ∙ rw l

module _ (k : Walk) (e : goes_on k ≡ true) where
  both : (lt k.s (centre k.from k.to ⊖ shortest) ≡ true) × (ltb 0 k.left ≡ true)
  unfolding goes_on
  both = and_both (lt k.s (centre k.from k.to ⊖ shortest)) (ltb 0 k.left) e

  pub goes_left : 0 < k.left
  goes_left = ltb-true 0 k.left both.1

  pub walk_goes : (step : Float) (ends : P) (sync : List Float) → left_of step ends sync k ≡ place_at k.from k.to k.s ∷ left_of step ends sync (walk_at k (k.s ⊕ step) (k.left - 1))
  unfolding left_of
  walk_goes step ends sync = window_goes step k.from k.to (windows step k.to (later_of ends sync k)) k.s k.left both.0 goes_left

-- what the code's test says
pub goes_is : (k : Walk) (s end : Float) (left : ℕ) {r b : Bool} → end ≡ centre k.from k.to ⊖ shortest → r ≡ (lt s end && ltb 0 left) → r ≡ b → goes_on (walk_at k s left) ≡ b
unfolding goes_on
goes_is k s end left e f h = ap (λ (x : Float). lt s x && ltb 0 left) (sym e) ∙ sym f ∙ h

-- ---- what is kept after q

module _ (ends : P) (sync : List Float) (q : P) (i : ℕ) where
  pub rest_more : (last : Bool) → last ≡ false → rest_of ends sync last q i ≡ kept ends q (points (drop i sync))
  unfolding rest_of
  rest_more last e = rw e

  pub rest_none : (last : Bool) → last ≡ true → rest_of ends sync last q i ≡ []
  unfolding rest_of
  rest_none last e = rw e

-- the sum over the windows from p on, where q is kept next
module _ (sum : Float) (p q : P) where
  pub centres_on : {qs rest : List P} {t : Float} → qs ≡ rest → centres_from sum p (q ∷ qs) ≡ t → centres_from (sum ⊕ centre p q) q rest ≡ t
  unfolding centres_from
  centres_on e f = rw e at f

  pub centres_end : {qs : List P} {t : Float} → qs ≡ [] → centres_from sum p (q ∷ qs) ≡ t → sum ⊕ centre p q ≡ t
  unfolding centres_from
  centres_end e f = rw e at f

-- the windows from p on, where q is kept next
pub windows_on : (step : Float) (p q : P) {qs rest : List P} (s : Float) (m : ℕ) → qs ≡ q ∷ rest → windows step p qs s m ≡ in_window step p q (windows step q rest) s m
unfolding windows
windows_on step p q s m e = rw e
