-- What is proved of an outline's rings: cut at their ends and joined again. Assumes nothing.
use Prim.Native.Nat.{ℕ, suc, ◌+◌, ◌-◌, ◌*◌, ◌/◌, ◌%◌, ◌≤◌}
use native.Mathlib.Omega.{arith}
use Rattle.std.specs.Prelude.{◌≡◌, true, ◌&&◌, eqb, take, Float}
use Rattle.std.proofs.Math.Path.{refl, sym, ap}
use Rattle.std.proofs.Common.{◌∙◌, inl, inr, length-drop, take-append-drop, drop_at, length-take-le}
use mathlib.Core.List.{List, [], ◌∷◌, ◌++◌, map, append_assoc}
use Rattle.std.proofs.Math.Dec.{leb}
use Rattle.std.proofs.Math.ListN.{length, drop, length-append}
use Rattle.std.proofs.lemmas.List.{length-map}
use Rattle.std.proofs.Math.Seq.{take_at, drop-drop, drop-length}
use borrow.Author.Tests.{eqb-true, leb-true, le-leb, eq-eqb}
use Rattle.seqs.specs.Lists.{each}
use Rattle.seqs.specs.Each.{each_map}
use Rattle.seqs.specs.Tests.{either, and_both}
use Rattle.geom.specs.declared.point.P.{P}
use Rattle.geom.specs.Outline.{points, cut, rings, rising}
use Rattle.geom.specs.OutlineLaws.{points_length, rising_le}
use Rattle.salvage.specs.Ring.{kept, left, ring_marks, kept_ring}
use Rattle.geom.specs.SewingLaws.{flat_length}
use Rattle.limits.specs.Limits.{good_outline}
use Rattle.salvage.specs.Salvage.{marks, dropped_places, dropped_reasons, kept_rings, ring_ends, kept_corners, kept_ends, fits}
use Rattle.salvage.specs.RingLaws.{count, marks_length, left_count, left_append}

module _ {A : Type 0} where
  abbrev pub join : List (List A) → List A
  join rs = each (λ r. r) rs

  -- rings joined are cut at their ends into themselves
  cut_from : (pre : List A) (rs : List (List A)) → cut (length pre) (ring_ends (length pre) rs) (pre ++ join rs) ≡ rs
  unfolding cut ring_ends
  cut_from pre [] = refl
  cut_from pre (r ∷ rs) =
      let e : length pre + length r - length pre ≡ length r = omega arith in
      let n : length (pre ++ r) ≡ length pre + length r = length-append pre r in
      rw (drop_at pre (r ++ join rs) (length pre) refl, e, take_at r (join rs) (length r) refl, ← append_assoc pre r (join rs), ← n) (ap (λ t. r ∷ t) (cut_from (pre ++ r) rs))

  pub cut_join : (rs : List (List A)) → cut 0 (ring_ends 0 rs) (join rs) ≡ rs
  cut_join rs = cut_from [] rs

  pub ends_rise : (n : ℕ) (rs : List (List A)) → rising n (ring_ends n rs) (n + length (join rs)) ≡ true
  unfolding rising ring_ends
  ends_rise n [] = eq-eqb n (n + 0) (omega arith)
  ends_rise n (r ∷ rs) =
      let e : n + length (r ++ join rs) ≡ n + length r + length (join rs) = omega (arith, length-append r (join rs)) in
      rw (le-leb n (n + length r) (omega arith), e) (ends_rise (n + length r) rs)

  pub ends_length : (n : ℕ) (rs : List (List A)) → length (ring_ends n rs) ≡ length rs
  unfolding ring_ends
  ends_length n [] = refl
  ends_length n (r ∷ rs) = ap suc (ends_length (n + length r) rs)

  -- a list cut at rising ends: as many parts, with those ends, and joined it is the list
  pub cut_length : (a : ℕ) (ends : List ℕ) (l : List A) → length (cut a ends l) ≡ length ends
  unfolding cut
  cut_length a [] l = refl
  cut_length a (e ∷ es) l = ap suc (cut_length e es l)

  module _ (l : List A) where
    part_length : (a e : ℕ) → a ≤ e → e ≤ length l → length (take (e - a) (drop a l)) ≡ e - a
    part_length a e h k = length-take-le (e - a) (drop a l) (omega (arith, length-drop a l))

    pub ends_cut : (a : ℕ) (ends : List ℕ) → rising a ends (length l) ≡ true → ring_ends a (cut a ends l) ≡ ends
    unfolding cut ring_ends rising
    ends_cut a [] h = refl
    ends_cut a (e ∷ es) h =
        let q = and_both (leb a e) (rising e es (length l)) h in
        let s : a + length (take (e - a) (drop a l)) ≡ e = omega (arith, leb-true a e q.0, part_length a e (leb-true a e q.0) (rising_le e es (length l) q.1)) in
        rw s (ap (λ t. e ∷ t) (ends_cut e es q.1))

    pub join_cut : (a : ℕ) (ends : List ℕ) → rising a ends (length l) ≡ true → join (cut a ends l) ≡ drop a l
    unfolding cut rising
    join_cut a [] h = sym (rw (eqb-true a (length l) h) (drop-length l))
    join_cut a (e ∷ es) h =
        let q = and_both (leb a e) (rising e es (length l)) h in
        let s : a + (e - a) ≡ e = omega (arith, leb-true a e q.0) in
        let d : drop (e - a) (drop a l) ≡ drop e l = drop-drop (e - a) a l ∙ rw s in
        rw (join_cut e es q.1, ← d) (take-append-drop (e - a) (drop a l))

module _ {A B : Type 0} (f : List A → List B) (h : (r : List A) → length (f r) ≡ length r) where
  ends_map : (n : ℕ) (rs : List (List A)) → ring_ends n (map f rs) ≡ ring_ends n rs
  unfolding ring_ends
  ends_map n [] = refl
  ends_map n (r ∷ rs) = rw (h r) (ap (λ t. (n + length r) ∷ t) (ends_map (n + length r) rs))

  -- what is said of each part, cut where the list is cut
  pub cut_each : (ends : List ℕ) (l : List A) → rising 0 ends (length l) ≡ true → cut 0 ends (each f (cut 0 ends l)) ≡ map f (cut 0 ends l)
  cut_each ends l r =
      let e : ring_ends 0 (map f (cut 0 ends l)) ≡ ends = ends_map 0 (cut 0 ends l) ∙ ends_cut l 0 ends r in
      rw (e, each_map f (cut 0 ends l)) at (cut_join (map f (cut 0 ends l)))

  pub each_size : (rs : List (List A)) → length (each f rs) ≡ length (join rs)
  each_size [] = refl
  each_size (r ∷ rs) = omega (arith, length-append (f r) (each f rs), length-append r (join rs), h r, each_size rs)

-- ---- what is left of an outline

left_join : (rs : List (List P)) → left (each ring_marks rs) (join rs) ≡ join (map kept_ring rs)
unfolding left kept_ring
left_join [] = refl
left_join (r ∷ rs) = left_append (ring_marks r) (each ring_marks rs) r (join rs) (marks_length r) ∙ ap (λ t. left (ring_marks r) r ++ t) (left_join rs)

-- how many are kept of each part of the marks, added up
unfoldable pub counted_ends : ℕ → List (List ℕ) → List ℕ
counted_ends n [] = []
counted_ends n (ms ∷ rest) = (n + count ms) ∷ counted_ends (n + count ms) rest

counted_rings : (n : ℕ) (rs : List (List P)) → counted_ends n (map ring_marks rs) ≡ ring_ends n (map kept_ring rs)
unfolding counted_ends ring_ends kept_ring
counted_rings n [] = refl
counted_rings n (r ∷ rs) = rw (left_count (ring_marks r) r (marks_length r)) (ap (λ t. (n + count (ring_marks r)) ∷ t) (counted_rings (n + count (ring_marks r)) rs))

pub counted_length : (a : ℕ) (ends ms : List ℕ) (n : ℕ) → length (counted_ends n (cut a ends ms)) ≡ length ends
unfolding counted_ends cut
counted_length a [] ms n = refl
counted_length a (e ∷ es) ms n = ap suc (counted_length e es ms (n + count (take (e - a) (drop a ms))))

module _ (corners : List Float) (ends : List ℕ) (rise : rising 0 ends (length corners / 2) ≡ true) where
  rise_points : rising 0 ends (length (points corners)) ≡ true
  rise_points = rw (points_length corners) rise

  rings_join : join (rings corners ends) ≡ points corners
  unfolding rings
  rings_join = join_cut (points corners) 0 ends rise_points

  -- a mark for each corner
  pub outline_marks : length (marks corners ends) ≡ length corners / 2
  unfolding marks
  outline_marks = each_size ring_marks marks_length (rings corners ends) ∙ ap length rings_join ∙ points_length corners

  -- by the marks: the corners that are left, and the ends
  pub left_corners : left (marks corners ends) (points corners) ≡ join (kept_rings corners ends)
  unfolding marks kept_rings
  left_corners = rw (← rings_join) (left_join (rings corners ends))

  pub left_ends_lem : counted_ends 0 (cut 0 ends (marks corners ends)) ≡ ring_ends 0 (kept_rings corners ends)
  unfolding marks kept_rings rings
  left_ends_lem = rw (cut_each ring_marks marks_length ends (points corners) rise_points) (counted_rings 0 (rings corners ends))

-- ---- how many

pub places_length : (i : ℕ) (ms : List ℕ) → length (dropped_places i ms) + count ms ≡ length ms
unfolding dropped_places
places_length i [] = refl
places_length i (m ∷ ms) = elim (either (kept m)) [ inl e ↦ rw e (omega (arith, places_length (i + 1) ms)) | inr e ↦ rw e (omega (arith, places_length (i + 1) ms)) ]

pub reasons_length : (ms : List ℕ) → length (dropped_reasons ms) + count ms ≡ length ms
unfolding dropped_reasons
reasons_length [] = refl
reasons_length (m ∷ ms) = elim (either (kept m)) [ inl e ↦ rw e (omega (arith, reasons_length ms)) | inr e ↦ rw e (omega (arith, reasons_length ms)) ]

-- the ring count stays
pub ends_size : (corners : List Float) (ends : List ℕ) → length (kept_ends corners ends) ≡ length ends
unfolding kept_ends kept_rings rings
ends_size corners ends = ends_length 0 (map kept_ring (cut 0 ends (points corners))) ∙ length-map (cut 0 ends (points corners)) kept_ring ∙ cut_length 0 ends (points corners)

module _ (corners : List Float) (ends : List ℕ) (rise : rising 0 ends (length corners / 2) ≡ true) where
  pub kept_count : length (join (kept_rings corners ends)) ≡ count (marks corners ends)
  kept_count = ap length (sym (left_corners corners ends rise)) ∙ left_count (marks corners ends) (points corners) (outline_marks corners ends rise ∙ sym (points_length corners))

  pub kept_size : length (kept_corners corners ends) ≡ 2 * count (marks corners ends)
  unfolding kept_corners
  kept_size = omega (arith, flat_length (join (kept_rings corners ends)), kept_count)

  -- ROOM by the counts
  pub fits_is : (n d cs es ps rs : ℕ) → n ≡ count (marks corners ends) → d ≡ length (marks corners ends) - count (marks corners ends) → fits corners ends cs es ps rs ≡ (leb (2 * n) cs && leb (length ends) es && leb d ps && leb d rs)
  unfolding fits
  fits_is n d cs es ps rs e f =
      let a : length (kept_corners corners ends) ≡ 2 * n = omega (arith, kept_size) in
      let b : length (dropped_places 0 (marks corners ends)) ≡ d = omega (arith, places_length 0 (marks corners ends)) in
      let c : length (dropped_reasons (marks corners ends)) ≡ d = omega (arith, reasons_length (marks corners ends)) in
      rw (a, ends_size corners ends, b, c)

-- room for all four
pub record Room (a b c d cs es ps rs : ℕ) : Type 0 where
  pub corners : a ≤ cs
  pub ends : b ≤ es
  pub places : c ≤ ps
  pub reasons : d ≤ rs

pub room_all : (a b c d cs es ps rs : ℕ) → (leb a cs && leb b es && leb c ps && leb d rs) ≡ true → Room a b c d cs es ps rs
room_all a b c d cs es ps rs h =
    let p = and_both (leb a cs && leb b es && leb c ps) (leb d rs) h in
    let q = and_both (leb a cs && leb b es) (leb c ps) p.0 in
    let r = and_both (leb a cs) (leb b es) q.0 in
    record { corners = leb-true a cs r.0; ends = leb-true b es r.1; places = leb-true c ps q.1; reasons = leb-true d rs p.1 }

-- an accepted outline has at most 255 rings and 1,024 corners
module _ (corners : List Float) (ends : List ℕ) (good : good_outline corners ends ≡ true) where
  parts : (leb (length ends) 255 ≡ true) × (leb (length corners / 2) 1024 ≡ true)
  unfolding good_outline
  parts =
      let p = and_both (eqb (length corners % 2) 0 && leb (length ends) 255 && leb (length corners / 2) 1024) (rising 0 ends (length corners / 2)) good in
      let q = and_both (eqb (length corners % 2) 0 && leb (length ends) 255) (leb (length corners / 2) 1024) p.0 in
      ((and_both (eqb (length corners % 2) 0) (leb (length ends) 255) q.0).1, q.1)

  pub few_rings : length ends ≤ 255
  few_rings = leb-true (length ends) 255 parts.0

  pub few_corners : length corners / 2 ≤ 1024
  few_corners = leb-true (length corners / 2) 1024 parts.1
