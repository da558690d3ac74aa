-- What is proved of salvaging: each corner is kept or dropped, once; what is kept passes document 01's checks; done twice, the second run changes
-- nothing; and an outline with nothing to drop comes back as it is. Assumes nothing.
use Rattle.std.specs.Prelude.{ℕ, ◌+◌, ◌/◌, ◌%◌, ◌≤◌, ◌<◌, ◌≡◌, refl, true, Float}
use Rattle.std.proofs.Common.{arith, ◌∙◌, inl, inr}
use Rattle.std.proofs.Math.Path.{ap}
use mathlib.Core.List.Permᴰ
use mathlib.Core.List.{List, [], ◌∷◌, ◌++◌, map, Permᴰ}
use Rattle.std.proofs.Math.ListN.{length}
use borrow.Author.Tests.{eq-eqb, le-leb}
use Rattle.refusal.specs.Refusal.{DONE}
use Rattle.refusal.specs.Sewn.{output}
use Rattle.seqs.specs.Lists.{upto, each, All, Sorted}
use Rattle.seqs.specs.Tests.{either, and_both}
use Rattle.geom.specs.declared.point.P.{P}
use Rattle.geom.specs.Outline.{points, rings, rising}
use Rattle.geom.specs.OutlineLaws.{points_length}
use Rattle.geom.specs.Sewing.{flat}
use Rattle.geom.specs.SewingLaws.{flat_length, points_flat}
use Rattle.limits.specs.Limits.{good_number, good_point, good_numbers, good_outline}
use Rattle.limits.specs.LimitsLaws.{outline_layout}
use Rattle.std.specs.Prelude.{Option, None, Some}
use Rattle.salvage.specs.Ring.{kept, left, ring_marks, kept_ring}
use Rattle.salvage.specs.Salvage.{marks, dropped_places, dropped_reasons, kept_rings, ring_ends, kept_corners, kept_ends, fits, salvage_answer, said, outcome, outcome_by, salvage_outcome}
use Rattle.salvage.specs.RingLaws.{marks_length}
use Rattle.salvage.specs.Clean.{Apart, kept_clean, clean_kept}
use Rattle.salvage.specs.OutlineLaws.{join, cut_join, ends_rise, ends_cut, join_cut, outline_marks, places_length, reasons_length, ends_size, kept_count, kept_size, few_rings, few_corners}

-- ---- each corner is kept or dropped, once

split_from : (i : ℕ) (ms : List ℕ) → Permᴰ (left ms (upto i (length ms)) ++ dropped_places i ms) (upto i (length ms))
unfolding left dropped_places
split_from i [] = Permᴰ.nil
split_from i (m ∷ ms) = elim (either (kept m)) [
  | inl e ↦ rw e (Permᴰ.cons refl (split_from (i + 1) ms))
  | inr e ↦ rw e (Permᴰ.trans (Permᴰ.middle i (left ms (upto (i + 1) (length ms))) (dropped_places (i + 1) ms)) (Permᴰ.cons refl (split_from (i + 1) ms)))
]

-- the places that are kept and those that are told as dropped are all places, each once
pub split : (ms : List ℕ) → Permᴰ (left ms (upto 0 (length ms)) ++ dropped_places 0 ms) (upto 0 (length ms))
split ms = split_from 0 ms

-- and stand in place order
places_after : (j i : ℕ) (ms : List ℕ) → j < i → All (λ k. j < k) (dropped_places i ms)
unfolding dropped_places
places_after j i [] h = tt
places_after j i (m ∷ ms) h = elim (either (kept m)) [ inl e ↦ rw e (places_after j (i + 1) ms (omega arith)) | inr e ↦ rw e (h, places_after j (i + 1) ms (omega arith)) ]

pub places_rise : (i : ℕ) (ms : List ℕ) → Sorted (λ a b. a < b) (dropped_places i ms)
unfolding dropped_places
places_rise i [] = tt
places_rise i (m ∷ ms) = elim (either (kept m)) [ inl e ↦ rw e (places_rise (i + 1) ms) | inr e ↦ rw e (places_after i (i + 1) ms (omega arith), places_rise (i + 1) ms) ]

module _ (corners : List Float) (ends : List ℕ) (good : good_outline corners ends ≡ true) where
  rise : rising 0 ends (length corners / 2) ≡ true
  rise = (outline_layout corners ends good).rise

  -- so the two counts add up to the corners
  pub counts : length (join (kept_rings corners ends)) + length (dropped_places 0 (marks corners ends)) ≡ length corners / 2
  counts = omega (arith, kept_count corners ends rise, places_length 0 (marks corners ends), outline_marks corners ends rise)

  -- a reason for each place
  pub reasons_too : length (dropped_reasons (marks corners ends)) ≡ length (dropped_places 0 (marks corners ends))
  reasons_too = omega (arith, reasons_length (marks corners ends), places_length 0 (marks corners ends))

-- ---- what is kept passes LAYOUT and NUMBER

apart_numbers : (ps : List P) (rest : List P) → All (λ p. good_point p ≡ true) ps → good_numbers (flat rest) ≡ true → good_numbers (flat (ps ++ rest)) ≡ true
unfolding good_numbers flat good_point
apart_numbers [] rest h k = k
apart_numbers (p ∷ ps) rest h k =
    let b = and_both (good_number p.x) (good_number p.y) h.0 in
    rw (b.0, b.1) (apart_numbers ps rest h.1 k)

apart_good : (last : Option P) (ps : List P) → Apart last ps → All (λ p. good_point p ≡ true) ps
apart_good last [] h = tt
apart_good last (p ∷ ps) h = (h.0, apart_good (Some p) ps h.2)

rings_numbers : (rs : List (List P)) → good_numbers (flat (join (map kept_ring rs))) ≡ true
unfolding good_numbers flat
rings_numbers [] = refl
rings_numbers (r ∷ rs) = apart_numbers (kept_ring r) (join (map kept_ring rs)) (apart_good None (kept_ring r) (kept_clean r).apart) (rings_numbers rs)

pub kept_numbers : (corners : List Float) (ends : List ℕ) → good_numbers (kept_corners corners ends) ≡ true
unfolding kept_corners kept_rings
kept_numbers corners ends = rings_numbers (rings corners ends)

module _ (corners : List Float) (ends : List ℕ) where
  half : length (kept_corners corners ends) / 2 ≡ length (join (kept_rings corners ends))
  unfolding kept_corners
  half = omega (arith, flat_length (join (kept_rings corners ends)))

  kept_rise : rising 0 (kept_ends corners ends) (length (kept_corners corners ends) / 2) ≡ true
  unfolding kept_ends
  kept_rise =
      let z : 0 + length (join (kept_rings corners ends)) ≡ length (kept_corners corners ends) / 2 = omega (arith, half) in
      rw z at (ends_rise 0 (kept_rings corners ends))

  pub kept_outline : good_outline corners ends ≡ true → good_outline (kept_corners corners ends) (kept_ends corners ends) ≡ true
  unfolding good_outline
  kept_outline good =
      let even : length (kept_corners corners ends) % 2 ≡ 0 = omega (arith, kept_size corners ends (rise corners ends good)) in
      let few : length (kept_corners corners ends) / 2 ≤ 1024 = omega (arith, half, counts corners ends good, few_corners corners ends good) in
      rw (eq-eqb (length (kept_corners corners ends) % 2) 0 even, le-leb (length (kept_ends corners ends)) 255 (omega (arith, ends_size corners ends, few_rings corners ends good)), le-leb (length (kept_corners corners ends) / 2) 1024 few) kept_rise

-- ---- done twice, the second run changes nothing

all_again : (rs : List (List P)) → map kept_ring (map kept_ring rs) ≡ map kept_ring rs
all_again [] = refl
all_again (r ∷ rs) = rw (clean_kept (kept_ring r) (kept_clean r)) (ap (λ t. kept_ring r ∷ t) (all_again rs))

empty : (l : List ℕ) → length l ≡ 0 → l ≡ []
empty [] h = refl
empty (a ∷ l) h = absurd (omega arith)

module _ (corners : List Float) (ends : List ℕ) where
  rings_again : rings (kept_corners corners ends) (kept_ends corners ends) ≡ kept_rings corners ends
  unfolding rings kept_corners kept_ends
  rings_again = rw (points_flat (join (kept_rings corners ends))) (cut_join (kept_rings corners ends))

  kept_again : kept_rings (kept_corners corners ends) (kept_ends corners ends) ≡ kept_rings corners ends
  unfolding kept_rings
  kept_again = ap (map kept_ring) rings_again ∙ all_again (rings corners ends)

  pub corners_again : kept_corners (kept_corners corners ends) (kept_ends corners ends) ≡ kept_corners corners ends
  unfolding kept_corners
  corners_again = ap (λ rs. flat (join rs)) kept_again

  pub ends_again : kept_ends (kept_corners corners ends) (kept_ends corners ends) ≡ kept_ends corners ends
  unfolding kept_ends
  ends_again = ap (ring_ends 0) kept_again

  module _ (good : good_outline corners ends ≡ true) where
    pub none_again : dropped_places 0 (marks (kept_corners corners ends) (kept_ends corners ends)) ≡ []
    none_again =
        let c = counts (kept_corners corners ends) (kept_ends corners ends) (kept_outline corners ends good) in
        empty (dropped_places 0 (marks (kept_corners corners ends) (kept_ends corners ends))) (omega (arith, c, half corners ends, ap (λ rs. length (join rs)) kept_again))

    pub no_reason_again : dropped_reasons (marks (kept_corners corners ends) (kept_ends corners ends)) ≡ []
    no_reason_again =
        let c = reasons_too (kept_corners corners ends) (kept_ends corners ends) (kept_outline corners ends good) in
        empty (dropped_reasons (marks (kept_corners corners ends) (kept_ends corners ends))) (omega (arith, c, ap length none_again))

    -- the call itself: given what it kept and room for that, it keeps all of it, tells of no corner, and leaves the lists of places and reasons
    pub twice : (cs : List Float) (es ps rs : List ℕ) → length (kept_corners corners ends) ≤ length cs → length (kept_ends corners ends) ≤ length es
        → salvage_outcome (kept_corners corners ends) (kept_ends corners ends) cs es ps rs
        ≡ outcome (said DONE (length (join (kept_rings corners ends))) 0) (output DONE (kept_corners corners ends) cs) (output DONE (kept_ends corners ends) es) ps rs
    unfolding salvage_outcome salvage_answer outcome_by fits
    twice cs es ps rs h k =
        rw (kept_outline corners ends good, corners_again, ends_again, none_again, no_reason_again, kept_again, le-leb (length (kept_corners corners ends)) (length cs) h, le-leb (length (kept_ends corners ends)) (length es) k, le-leb 0 (length ps) (omega arith), le-leb 0 (length rs) (omega arith))

-- ---- an outline with nothing to drop comes back as it is

all_kept : (i : ℕ) (ms : List ℕ) → dropped_places i ms ≡ [] → All (λ m. kept m ≡ true) ms
unfolding dropped_places
all_kept i [] h = tt
all_kept i (m ∷ ms) h = elim (either (kept m)) [ inl e ↦ (e, all_kept (i + 1) ms (rw e at h)) | inr e ↦ absurd (omega (arith, ap length (rw e at h))) ]

all_split : (a b : List ℕ) → All (λ m. kept m ≡ true) (a ++ b) → All (λ m. kept m ≡ true) a × All (λ m. kept m ≡ true) b
all_split [] b h = (tt, h)
all_split (m ∷ a) b h = let s = all_split a b h.1 in ((h.0, s.0), s.1)

left_full : (ms : List ℕ) (l : List P) → length ms ≡ length l → All (λ m. kept m ≡ true) ms → left ms l ≡ l
unfolding left
left_full [] [] h k = refl
left_full [] (p ∷ l) h k = absurd (omega arith)
left_full (m ∷ ms) [] h k = absurd (omega arith)
left_full (m ∷ ms) (p ∷ l) h k = rw k.0 (ap (λ r. p ∷ r) (left_full ms l (omega arith) k.1))

rings_full : (rs : List (List P)) → All (λ m. kept m ≡ true) (each ring_marks rs) → map kept_ring rs ≡ rs
unfolding kept_ring
rings_full [] h = refl
rings_full (r ∷ rs) h =
    let s = all_split (ring_marks r) (each ring_marks rs) h in
    rw (left_full (ring_marks r) r (marks_length r) s.0) (ap (λ t. r ∷ t) (rings_full rs s.1))

flat_points : (l : List Float) → length l % 2 ≡ 0 → flat (points l) ≡ l
unfolding flat points
flat_points [] h = refl
flat_points (x ∷ []) h = absurd (omega arith)
flat_points (x ∷ y ∷ l) h = ap (λ r. x ∷ y ∷ r) (flat_points l (omega arith))

module _ (corners : List Float) (ends : List ℕ) (good : good_outline corners ends ≡ true) (none : dropped_places 0 (marks corners ends) ≡ []) where
  all_rings : kept_rings corners ends ≡ rings corners ends
  unfolding kept_rings marks
  all_rings = rings_full (rings corners ends) (all_kept 0 (marks corners ends) none)

  rise_points : rising 0 ends (length (points corners)) ≡ true
  rise_points = rw (points_length corners) (rise corners ends good)

  pub corners_unchanged : kept_corners corners ends ≡ corners
  unfolding kept_corners rings
  corners_unchanged = ap (λ rs. flat (join rs)) all_rings ∙ ap flat (join_cut (points corners) 0 ends rise_points) ∙ flat_points corners (outline_layout corners ends good).even

  pub ends_unchanged : kept_ends corners ends ≡ ends
  unfolding kept_ends rings
  ends_unchanged = ap (ring_ends 0) all_rings ∙ ends_cut (points corners) 0 ends rise_points
