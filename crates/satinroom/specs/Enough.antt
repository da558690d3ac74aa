-- No satin call that is lent its room is refused for want of working room, and what the room call refuses the call refuses too. Assumes nothing.
use Rattle.std.specs.Prelude.{ℕ, ◌+◌, ◌≤◌, ◌≡◌, Bool, true, false, eqb, Float}
use Rattle.std.proofs.Math.Nat.{le_trans}
use native.Mathlib.Omega.{arith}
use Rattle.std.proofs.Math.Path.{refl, sym, ap}
use Rattle.std.proofs.Common.{◌∙◌, le-leb, leb-true}
use Rattle.std.proofs.Math.Logic.{inl, inr}
use mathlib.Core.List.{List, [], ◌∷◌}
use Rattle.std.proofs.Math.Dec.{leb}
use Rattle.std.proofs.Math.ListN.{length, length-map}
use Rattle.refusal.specs.Refusal.{DONE, SETTING, WORK, unless, ◌then◌}
use Rattle.seqs.specs.Lists.{every, fold}
use Rattle.seqs.specs.Tests.{and_both, either, clash, refute}
use Rattle.geom.specs.declared.point.P.{P}
use Rattle.geom.specs.Sewing.{flat, fitted}
use Rattle.limits.specs.Limits.{most_pairs, good_step}
use Rattle.satinrules.specs.declared.Satin.{Satin}
use Rattle.satinrules.specs.Settings.{good_satin}
use Rattle.satinrules.specs.Pairs.{Rails, ends_of, few, count_of, places, pair_at, pairs}
use Rattle.satinrules.specs.Column.{column}
use Rattle.satinrules.specs.Calls.{rails_of, good_rails, pass_steps, sized, most, most_of, need, passed, both_points, pairs_refusal, column_refusal}
use Rattle.satinrules.specs.CallLaws.{most_left, most_right, most_bound, answer_size, answer_fitted, no_column}
use Rattle.pairing.specs.Walk.{pass_of}
use Rattle.pairing.specs.WalkLaws.{places_are, places_bound}
use Rattle.satin.specs.PassedLaws.{few_none, rails_small}
use Rattle.satinroom.specs.Room.{largest_from, room_for, room_after, pairs_room_of, column_room_of}

-- ---- the largest n

module _ (ends : P) (sync : List P) where
  largest_start : (m : ℕ) (ss : List Float) → m ≤ largest_from ends sync m ss
  unfolding largest_from
  largest_start m [] = omega arith
  largest_start m (s ∷ ss) = le_trans (most_left m (count_of ends sync s)) (largest_start (most m (count_of ends sync s)) ss)

  -- where the largest isn't over k no pass is, and the other way
  each_below : (m k : ℕ) (ss : List Float) → largest_from ends sync m ss ≤ k → every (λ s. leb (count_of ends sync s) k) ss ≡ true
  unfolding largest_from
  each_below m k [] h = refl
  each_below m k (s ∷ ss) h =
      let n = count_of ends sync s in
      rw (le-leb n k (le_trans (most_right m n) (le_trans (largest_start (most m n) ss) h))) (each_below (most m n) k ss h)

  largest_below : (m k : ℕ) (ss : List Float) → m ≤ k → every (λ s. leb (count_of ends sync s) k) ss ≡ true → largest_from ends sync m ss ≤ k
  unfolding largest_from
  largest_below m k [] h e = h
  largest_below m k (s ∷ ss) h e =
      let n = count_of ends sync s in
      let b = and_both (leb n k) (every (λ s. leb (count_of ends sync s) k) ss) e in
      largest_below (most m n) k ss (most_bound m n k h (leb-true n k b.0)) b.1

module _ (r : Rails) where
  abbrev largest : List Float → ℕ
  largest ss = largest_from (ends_of r) r.sync 0 ss

  sized_largest : (ss : List Float) → sized r ss ≡ leb (largest ss) most_pairs
  unfolding sized
  sized_largest ss = elim (either (leb (largest ss) most_pairs)) [
    | inl e ↦ rw e (each_below (ends_of r) r.sync 0 most_pairs ss (leb-true (largest ss) most_pairs e))
    | inr e ↦ rw e (refute (sized r ss) (λ t. clash (le-leb (largest ss) most_pairs (largest_below (ends_of r) r.sync 0 most_pairs ss (omega arith) t)) e))
  ]

  module _ (some : few r ≡ false) where
    -- a pass has at most one pair more than its n
    pairs_bound : (s : Float) → length (pairs r s) ≤ count_of (ends_of r) r.sync s + 1
    unfolding pairs pass_of
    pairs_bound s =
        rw some (omega (arith, length-map (places (ends_of r) r.sync s) (pair_at r), ap length (places_are (ends_of r) r.sync s), places_bound (ends_of r) r.sync (pass_of (ends_of r) r.sync s)))

    most_below : (j m : ℕ) (ss : List Float) → j ≤ m + 1 → fold (λ s n. most n (length (pairs r s))) j ss ≤ largest_from (ends_of r) r.sync m ss + 1
    unfolding largest_from
    most_below j m [] h = h
    most_below j m (s ∷ ss) h =
        let n = count_of (ends_of r) r.sync s in
        let k = length (pairs r s) in
        most_below (most j k) (most m n) ss (most_bound j k (most m n + 1) (omega (arith, h, most_left m n)) (omega (arith, pairs_bound s, most_right m n)))

    need_below : (ss : List Float) → need r (most_of r ss) ≤ need r (largest ss + 1)
    unfolding need most_of
    need_below ss = omega (arith, most_below 0 0 ss (omega arith))

-- ---- a call after its checks in front, which told n

stopped : (n m : ℕ) → eqb n 0 ≡ false → (n then m) ≡ n
stopped n m e = rw e

few_done : (r : Rails) (ss : List Float) (work room : ℕ) → few r ≡ true → passed r ss [] work room ≡ fitted [] room
unfolding passed fitted flat
few_done r ss work room f = rw (f, le-leb 0 room (omega arith))

module _ (n : ℕ) (r : Rails) (ss : List Float) (ps : List P) (work room : ℕ) where
  -- what the room call refuses
  refused_after : ((room_after n r ss).answer ≡ DONE → ⊥) → (n then passed r ss ps work room) ≡ (room_after n r ss).answer
  unfolding room_after room_for
  refused_after h = elim (either (eqb n 0)) [
    | inr e ↦ rw e
    | inl e ↦ elim (either (few r)) [
      | inl f ↦ absurd (h (rw (e, f)))
      | inr f ↦ elim (either (leb (largest r ss) most_pairs)) [
        | inl l ↦ absurd (h (rw (e, f, l)))
        | inr l ↦ rw (e, f, l) (answer_size r ss ps work room f (sized_largest r ss ∙ l))
      ]
    ]
  ]

  -- and what it doesn't: lent that room or more, all that is left to ask is the output's room
  enough_after : (few r ≡ true → ps ≡ []) → (room_after n r ss).floats ≤ work → (n then passed r ss ps work room) ≡ ((room_after n r ss).answer then fitted ps room)
  unfolding room_after room_for
  enough_after none h = elim (either (eqb n 0)) [
    | inr e ↦ rw e (sym (stopped n (fitted ps room) e))
    | inl e ↦ elim (either (few r)) [
      | inl f ↦ rw (e, f, none f) (few_done r ss work room f)
      | inr f ↦ elim (either (leb (largest r ss) most_pairs)) [
        | inl l ↦ rw (e, f, l) (answer_fitted r ss ps work room f (sized_largest r ss ∙ l) (le_trans (need_below r f ss) (rw (e, f, l) at h)))
        | inr l ↦ rw (e, f, l) (answer_size r ss ps work room f (sized_largest r ss ∙ l))
      ]
    ]
  ]

  answer_small : n ≤ 5 → (room_after n r ss).answer ≤ 5
  unfolding room_after room_for
  answer_small h = elim (either (eqb n 0)) [
    | inr e ↦ rw e h
    | inl e ↦ elim (either (few r)) [
      | inl f ↦ rw (e, f) (omega arith)
      | inr f ↦ elim (either (leb (largest r ss) most_pairs)) [ inl l ↦ rw (e, f, l) (omega arith) | inr l ↦ rw (e, f, l) (omega arith) ]
    ]
  ]

  no_work : (k : ℕ) → k ≤ 5 → (k then fitted ps room) ≡ WORK → ⊥
  unfolding fitted
  no_work k h w = elim (either (eqb k 0)) [
    | inr e ↦ omega (arith, h, rw e at w)
    | inl e ↦ elim (either (leb (length (flat ps)) room)) [ inl l ↦ omega (arith, rw (e, l) at w) | inr l ↦ omega (arith, rw (e, l) at w) ]
  ]

  -- so WORK is never told
  never_after : n ≤ 5 → (few r ≡ true → ps ≡ []) → (room_after n r ss).floats ≤ work → (n then passed r ss ps work room) ≡ WORK → ⊥
  never_after small none h w = no_work (room_after n r ss).answer (answer_small small) (sym (enough_after none h) ∙ w)

-- the checks in front, one after the other
then_then : (x y z : ℕ) → ((x then y) then z) ≡ (x then y then z)
then_then x y z = elim (either (eqb x 0)) [ inl e ↦ rw e | inr e ↦ rw e (stopped x z e) ]

front_small : (a b sync : List Float) (good : Bool) → (good_rails a b sync then unless SETTING good) ≤ 5
front_small a b sync good = elim (either (eqb (good_rails a b sync) 0)) [ inl e ↦ rw e (setting good) | inr e ↦ rw e (omega (arith, rails_small a b sync)) ]
  where
    setting : (good : Bool) → unless SETTING good ≤ 5
    setting true = omega arith
    setting false = omega arith

-- ---- the calls

module _ (a b sync : List Float) (step : Float) (work room : ℕ) where
  opened_pairs : pairs_refusal a b sync step work room ≡ ((good_rails a b sync then unless SETTING (good_step step)) then passed (rails_of a b sync) (step ∷ []) (both_points (pairs (rails_of a b sync) step)) work room)
  unfolding pairs_refusal
  opened_pairs = sym (then_then (good_rails a b sync) (unless SETTING (good_step step)) (passed (rails_of a b sync) (step ∷ []) (both_points (pairs (rails_of a b sync) step)) work room))

  pub pairs_refused : ((pairs_room_of a b sync step).answer ≡ DONE → ⊥) → pairs_refusal a b sync step work room ≡ (pairs_room_of a b sync step).answer
  unfolding pairs_room_of
  pairs_refused h = opened_pairs ∙ refused_after (good_rails a b sync then unless SETTING (good_step step)) (rails_of a b sync) (step ∷ []) (both_points (pairs (rails_of a b sync) step)) work room h

  module _ (lent : (pairs_room_of a b sync step).floats ≤ work) where
    pub pairs_enough : pairs_refusal a b sync step work room ≡ ((pairs_room_of a b sync step).answer then fitted (both_points (pairs (rails_of a b sync) step)) room)
    unfolding pairs_room_of
    pairs_enough = opened_pairs ∙ enough_after (good_rails a b sync then unless SETTING (good_step step)) (rails_of a b sync) (step ∷ []) (both_points (pairs (rails_of a b sync) step)) work room (few_none a b sync step) lent

    pub pairs_never_work : pairs_refusal a b sync step work room ≡ WORK → ⊥
    unfolding pairs_room_of
    pairs_never_work w = never_after (good_rails a b sync then unless SETTING (good_step step)) (rails_of a b sync) (step ∷ []) (both_points (pairs (rails_of a b sync) step)) work room (front_small a b sync (good_step step)) (few_none a b sync step) lent (sym opened_pairs ∙ w)

module _ (a b sync : List Float) (g : Satin) (work room : ℕ) where
  opened_column : column_refusal a b sync g work room ≡ ((good_rails a b sync then unless SETTING (good_satin g)) then passed (rails_of a b sync) (pass_steps g) (column (rails_of a b sync) g) work room)
  unfolding column_refusal
  opened_column = sym (then_then (good_rails a b sync) (unless SETTING (good_satin g)) (passed (rails_of a b sync) (pass_steps g) (column (rails_of a b sync) g) work room))

  pub column_refused : ((column_room_of a b sync g).answer ≡ DONE → ⊥) → column_refusal a b sync g work room ≡ (column_room_of a b sync g).answer
  unfolding column_room_of
  column_refused h = opened_column ∙ refused_after (good_rails a b sync then unless SETTING (good_satin g)) (rails_of a b sync) (pass_steps g) (column (rails_of a b sync) g) work room h

  module _ (lent : (column_room_of a b sync g).floats ≤ work) where
    pub column_enough : column_refusal a b sync g work room ≡ ((column_room_of a b sync g).answer then fitted (column (rails_of a b sync) g) room)
    unfolding column_room_of
    column_enough = opened_column ∙ enough_after (good_rails a b sync then unless SETTING (good_satin g)) (rails_of a b sync) (pass_steps g) (column (rails_of a b sync) g) work room (no_column (rails_of a b sync) g) lent

    pub column_never_work : column_refusal a b sync g work room ≡ WORK → ⊥
    unfolding column_room_of
    column_never_work w = never_after (good_rails a b sync then unless SETTING (good_satin g)) (rails_of a b sync) (pass_steps g) (column (rails_of a b sync) g) work room (front_small a b sync (good_satin g)) (no_column (rails_of a b sync) g) lent (sym opened_column ∙ w)
