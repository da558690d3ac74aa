-- What is proved of the walk: its turns, and that it comes to the places. Assumes nothing.
use Prim.Native.Nat.{ℕ, zero, suc, ◌+◌, ◌-◌, ◌≤◌, ◌<◌}
use native.Mathlib.Omega.{arith}
use Rattle.std.specs.Prelude.{◌≡◌, Bool, true, false, ◌&&◌, cond, Option, Some, List, [], ◌∷◌, ◌++◌, ltb, length, Float}
use Rattle.std.proofs.Math.Path.{refl}
use Rattle.std.proofs.Common.{sym, ap, ◌∙◌, inl, inr, length-append, lt-ltb}
use Rattle.std.specs.Float.Ieee.{lt, sub, mul, round}
use Rattle.numbers.specs.Num.{◌⊕◌, ◌⊖◌, zero64, literal}
use Rattle.seqs.specs.Tests.{clash, either}
use Rattle.geom.specs.declared.point.P.{P}
use Rattle.polyline.specs.Line.{shortest}
use Rattle.satinrules.specs.Pairs.{origin, grows, kept, centre, centres_from, total_of, count_of, place_at, in_window, windows, places}
use Rattle.pairing.specs.declared.places.Pass.{Pass}
use Rattle.pairing.specs.Walk.{option_list, places_left, pass_along, pass_of, walk_places}

-- ---- the sync points that are kept

module _ (ends p q : P) (qs : List P) where
  pub kept_grows : grows ends p q ≡ true → kept ends p (q ∷ qs) ≡ q ∷ kept ends q qs
  unfolding kept
  kept_grows e = rw e

  pub kept_skips : grows ends p q ≡ false → kept ends p (q ∷ qs) ≡ kept ends p qs
  unfolding kept
  kept_skips e = rw e

-- where a walk over windows stands that has just begun: `done` is false, and this is what is left
pub kept_whole : (ends from : P) (sync : List P) (done : Bool) (v : P × List P) → done ≡ false → (from, cond done [] (kept ends from sync)) ≡ v → (from ≡ v.0) × (v.1 ≡ kept ends from sync)
kept_whole ends from sync done v d e = (ap (λ (x : P × List P). x.0) e, sym (ap (λ (x : P × List P). x.1) e) ∙ rw d)

-- ---- the windows

and_no : (b : Bool) → (b && false) ≡ false
and_no true = refl
and_no false = refl

no_more : (b : Bool) (m : ℕ) → (b && ltb 0 (suc m)) ≡ false → b ≡ false
no_more true m e = clash (lt-ltb 0 (suc m) (omega arith)) e
no_more false m e = refl

module _ (step : Float) (p q : P) (on : Float → ℕ → List P) (s : Float) where
  pub window_goes : (m : ℕ) → lt s (centre p q ⊖ shortest) ≡ true → 0 < m → in_window step p q on s m ≡ place_at p q s ∷ in_window step p q on (s ⊕ step) (m - 1)
  unfolding in_window
  window_goes zero e h = absurd (omega arith)
  window_goes (suc m) e h = let z : suc m - 1 ≡ m = omega arith in rw (e, z)

  pub window_over : (m : ℕ) → (lt s (centre p q ⊖ shortest) && ltb 0 m) ≡ false → in_window step p q on s m ≡ on (s ⊖ centre p q) m
  unfolding in_window
  window_over zero e = refl
  window_over (suc m) e = rw (no_more (lt s (centre p q ⊖ shortest)) m e)

-- the centre lengths, from window to window
pub centres_next : (sum : Float) (v t : P × List P) (from to : P) {all : Float} → from ≡ v.0 → to ≡ t.0 → v.1 ≡ t.0 ∷ t.1 → centres_from sum v.0 v.1 ≡ all → centres_from (sum ⊕ centre from to) t.0 t.1 ≡ all
unfolding centres_from
centres_next sum v t from to a b e h = rw (a, b) (rw e at h)

pub centres_end : (sum : Float) (v : P × List P) {all : Float} → v.1 ≡ [] → centres_from sum v.0 v.1 ≡ all → sum ≡ all
unfolding centres_from
centres_end sum v e h = rw e at h

-- ---- the places that are still to come

module _ (step : Float) (p q : P) (v : P × List P) (s : Float) (m : ℕ) (end : Option P) where
  pub left_here : lt s (centre p q ⊖ shortest) ≡ true → 0 < m → places_left step p q v s m end ≡ place_at p q s ∷ places_left step p q v (s ⊕ step) (m - 1) end
  unfolding places_left
  left_here e h = ap (λ (l : List P). l ++ option_list end) (window_goes step p q (windows step v.0 v.1) s m e h)

  module _ (over : (lt s (centre p q ⊖ shortest) && ltb 0 m) ≡ false) where
    pub left_next : (from to : P) (t : P × List P) → from ≡ v.0 → to ≡ t.0 → v.1 ≡ t.0 ∷ t.1 → places_left step p q v s m end ≡ places_left step from to t (s ⊖ centre p q) m end
    unfolding places_left windows
    left_next from to t a b e = rw (window_over step p q (windows step v.0 v.1) s m over, a, b, e)

    pub left_none : v.1 ≡ [] → places_left step p q v s m end ≡ option_list end
    unfolding places_left windows
    left_none e = rw (window_over step p q (windows step v.0 v.1) s m over, e)

-- no place is left, or the window is over
pub none_left : (s end : Float) (m : ℕ) → m ≡ 0 → (lt s end && ltb 0 m) ≡ false
none_left s end m e = rw e (and_no (lt s end))

pub none_here : (s end : Float) (m : ℕ) → lt s end ≡ false → (lt s end && ltb 0 m) ≡ false
none_here s end m e = rw e

-- before the first window there is an empty one
pub left_whole : (ends : P) (sync : List P) (w : Pass) (v : P × List P) → v ≡ (origin, kept ends origin sync) → places_left w.step origin origin v zero64 w.n (Some ends) ≡ walk_places ends sync w
unfolding places_left walk_places centre shortest literal round lt sub mul
left_whole ends sync w v e = rw (e, window_over w.step origin origin (windows w.step origin (kept ends origin sync)) zero64 w.n refl)

-- ---- how many places there are

-- the count of a pass's places: those of the windows, and the ends
pub places_count : (ends : P) (sync : List P) (w : Pass) → length (walk_places ends sync w) ≡ length (windows w.step origin (kept ends origin sync) zero64 w.n) + 1
unfolding walk_places
places_count ends sync w = length-append (windows w.step origin (kept ends origin sync) zero64 w.n) (ends ∷ [])

-- by the length of the centre
pub pass_by : (ends : P) (sync : List P) (step : Float) {total : Float} → total ≡ total_of ends sync → pass_along total step ≡ pass_of ends sync step
unfolding pass_of count_of
pass_by ends sync step e = rw e

-- the places of the pass that `step` asks for are those of `step`
pub places_are : (ends : P) (sync : List P) (step : Float) → walk_places ends sync (pass_of ends sync step) ≡ places ends sync step
unfolding walk_places pass_of places
places_are ends sync step = refl

window_bound : (step : Float) (p q : P) (on : Float → ℕ → List P) → ((s : Float) (m : ℕ) → length (on s m) ≤ m) → (s : Float) (m : ℕ) → length (in_window step p q on s m) ≤ m
unfolding in_window
window_bound step p q on h s zero = h (s ⊖ centre p q) zero
window_bound step p q on h s (suc m) = elim (either (lt s (centre p q ⊖ shortest))) [
  | inl e ↦ rw e (omega (arith, window_bound step p q on h (s ⊕ step) m))
  | inr e ↦ rw e (h (s ⊖ centre p q) (suc m))
]

windows_bound : (step : Float) (p : P) (qs : List P) (s : Float) (m : ℕ) → length (windows step p qs s m) ≤ m
unfolding windows
windows_bound step p [] s m = omega arith
windows_bound step p (q ∷ qs) s m = window_bound step p q (windows step q qs) (windows_bound step q qs) s m

pub places_bound : (ends : P) (sync : List P) (w : Pass) → length (walk_places ends sync w) ≤ w.n + 1
places_bound ends sync w = omega (arith, places_count ends sync w, windows_bound w.step origin (kept ends origin sync) zero64 w.n)
