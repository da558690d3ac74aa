-- Lines in two output slices: their counts, and the room for them. Assumes nothing.
use Rattle.std.specs.Prelude.{ℕ, ◌+◌, ◌/◌, ◌≤◌, ◌<◌, ◌≡◌, ◌⊎◌, List, [], ◌∷◌, ◌++◌, leb, length, Ok, Err, Float}
use Rattle.std.proofs.Common.{arith, ap, ◌∙◌, length-append, inl, inr}
use Rattle.std.proofs.Math.Bool.{and-false}
use borrow.Author.Tests.{le-leb, lt-leb}
use Rattle.refusal.specs.declared.Refusal.{Refusal}
use Rattle.refusal.specs.declared.Refusal.TheVariants.{Room}
use Rattle.refusal.specs.Refusal.{DONE, ROOM}
use Rattle.seqs.specs.Lists.{each}
use Rattle.seqs.specs.Each.{each_append}
use Rattle.geom.specs.declared.point.P.{P}
use Rattle.geom.specs.Sewing.{flat}
use Rattle.geom.specs.SewingLaws.{flat_length}
use Rattle.patterns_rules.specs.declared.Count.{Count}
use Rattle.rules.specs.Calls.{sewn_points, sewn_ends}
use Rattle.patterns_rules.specs.Answers.{room_for, count_of, said_lines, left_points, left_ends, LinesSewn}

pub points_append : (ls ms : List (List P)) → sewn_points (ls ++ ms) ≡ sewn_points ls ++ sewn_points ms
unfolding sewn_points
points_append ls ms = each_append (λ l. l) ls ms

pub ends_append : (n : ℕ) (ls ms : List (List P)) → sewn_ends n (ls ++ ms) ≡ sewn_ends n ls ++ sewn_ends (n + length (sewn_points ls)) ms
unfolding sewn_ends sewn_points
ends_append n [] ms = let e : n ≡ n + 0 = omega arith in ap (λ (k : ℕ). sewn_ends k ms) e
ends_append n (l ∷ ls) ms =
    let e : n + length l + length (each (λ (l : List P). l) ls) ≡ n + length (l ++ each (λ (l : List P). l) ls) = omega (arith, length-append l (each (λ (l : List P). l) ls)) in
    ap (λ r. (n + length l) ∷ r) (ends_append (n + length l) ls ms ∙ rw e)

-- the points compared with half the slice, the lines with the other
module _ (ls : List (List P)) (points ends : ℕ) where
  pub no_room_points : points / 2 < length (sewn_points ls) → room_for ls points ends ≡ ROOM
  unfolding room_for
  no_room_points h = rw (lt-leb (length (flat (sewn_points ls))) points (omega (arith, flat_length (sewn_points ls))))

  pub no_room_lines : ends < length ls → room_for ls points ends ≡ ROOM
  unfolding room_for
  no_room_lines h = rw (lt-leb (length ls) ends h, and-false (leb (length (flat (sewn_points ls))) points))

  pub no_room : (points / 2 < length (sewn_points ls)) ⊎ ((length (sewn_points ls) ≤ points / 2) × (ends < length ls)) → room_for ls points ends ≡ ROOM
  no_room (inl h) = no_room_points h
  no_room (inr h) = no_room_lines h.1

  module _ (h : length (sewn_points ls) ≤ points / 2) where
    pub points_fit : length (flat (sewn_points ls)) ≤ points
    points_fit = omega (arith, flat_length (sewn_points ls))

    pub room : length ls ≤ ends → room_for ls points ends ≡ DONE
    unfolding room_for
    room k = rw (le-leb (length (flat (sewn_points ls))) points points_fit, le-leb (length ls) ends k)

-- what is said and left where there is room, and where there is none
module _ (ls : List (List P)) {out : List Float} {stops : List ℕ} where
  pub lines_sewn : {c : Count} {out' : List Float} {stops' : List ℕ} → length (sewn_points ls) ≤ length out / 2 → length ls ≤ length stops → c ≡ count_of ls → out' ≡ left_points DONE ls out → stops' ≡ left_ends DONE ls stops → LinesSewn ls (Ok c) out out' stops stops'
  unfolding said_lines count_of
  lines_sewn n m e f g = let r = room ls (length out) (length stops) n m in record { says = rw (r, e); points = rw r f; ends = rw r g }

  pub no_lines_sewn : (length out / 2 < length (sewn_points ls)) ⊎ ((length (sewn_points ls) ≤ length out / 2) × (length stops < length ls)) → {e : Refusal} → e ≡ Room → LinesSewn ls (Err e) out out stops stops
  unfolding said_lines left_points left_ends
  no_lines_sewn h e = let r = no_room ls (length out) (length stops) h in record { says = rw (r, e); points = rw r; ends = rw r }
