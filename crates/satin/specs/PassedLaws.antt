-- What is proved of the answers once the rails are accepted: which of SIZE, WORK, ROOM and DONE it is. Assumes nothing.
use Rattle.std.specs.Prelude.{ℕ, zero, suc, ◌*◌, ◌/◌, ◌%◌, ◌≤◌, ◌<◌, ◌≡◌, Bool, true, false, ◌&&◌, ◌||◌, leb, ltb, eqb, length, drop, Float}
use Rattle.std.proofs.Common.{arith, ap, ◌∙◌, length-append, length-drop}
use Rattle.std.proofs.Math.Path.{refl}
use mathlib.Core.List.{List, [], ◌∷◌, ◌++◌}
use borrow.Author.Tests.{le-leb, lt-leb, leb-true, ne_eqb, eqb-true, ltb-false}
use Rattle.refusal.specs.Refusal.{DONE, LAYOUT, NUMBER, SETTING, SIZE, WORK, ROOM, unless, ◌then◌}
use Rattle.seqs.specs.Tests.{and_both, clash}
use Rattle.geom.specs.declared.point.P.{P}
use Rattle.geom.specs.Outline.{points}
use Rattle.geom.specs.OutlineLaws.{points_length}
use Rattle.geom.specs.Sewing.{flat, fitted}
use Rattle.geom.specs.SewingLaws.{flat_length, points_flat}
use Rattle.limits.specs.Limits.{most_pairs, good_line, good_numbers, good_step}
use Rattle.satinrules.specs.declared.Pair.{Pair}
use Rattle.satinrules.specs.Pairs.{ends_of, few, count_of, places, pairs}
use Rattle.satinrules.specs.Calls.{rails_of, good_sync, good_rails, sized, most_of, need, passed, worked, both_points, pairs_refusal}
use Rattle.pairing.specs.Store.{Sound, stored_pairs}
use Rattle.pairing.specs.StoreLaws.{stored_length}
use Rattle.pairing.specs.declared.places.Pass.{Pass}
use Rattle.pairing.specs.Walk.{pass_of, walk_places}
use Rattle.pairing.specs.WalkLaws.{places_are}
use Rattle.passes.specs.Threads.{pairs_in}
use Rattle.passes.specs.ThreadsLaws.{pairs_in_both}
use Rattle.satin.specs.Passed.{pairs_passed, placed}

-- ---- the rails

through : (b : Bool) (n m : ℕ) → (unless (suc n) b then m) ≡ 0 → (b ≡ true) × (m ≡ 0)
through true n m e = (refl, e)
through false n m e = let h = rw (ne_eqb (suc n) 0 (λ q. omega arith)) at e in let z : ⊥ = omega arith in absurd z

even : (l : List Float) → good_line l ≡ true → length l % 2 ≡ 0
unfolding good_line
even l h = eqb-true _ _ (and_both (eqb (length l % 2) 0) (leb (length l / 2) 1024) h).0

short : (l : List Float) → good_line l ≡ true → length l / 2 ≤ 1024
unfolding good_line
short l h = leb-true _ _ (and_both (eqb (length l % 2) 0) (leb (length l / 2) 1024) h).1

corners : (x y : Bool) → (x || y) ≡ false → (x ≡ false) × (y ≡ false)
corners true y e = clash refl e
corners false y e = (refl, e)

-- rails that were accepted, of 2 corners or more
pub sound : (a b sync : List Float) → good_rails a b sync ≡ 0 → few (rails_of a b sync) ≡ false → Sound a b
unfolding good_rails few rails_of
sound a b sync h f =
    let n3 = unless NUMBER (good_numbers sync) in
    let n2 = unless NUMBER (good_numbers b) then n3 in
    let n1 = unless NUMBER (good_numbers a) then n2 in
    let l3 = unless LAYOUT (good_sync sync) then n1 in
    let l2 = unless LAYOUT (good_line b) then l3 in
    let t1 = through (good_line a) 0 l2 h in
    let t2 = through (good_line b) 0 l3 t1.1 in
    let t3 = through (good_sync sync) 0 n1 t2.1 in
    let t4 = through (good_numbers a) 1 n2 t3.1 in
    let t5 = through (good_numbers b) 1 n3 t4.1 in
    let c = corners (ltb (length (points a)) 2) (ltb (length (points b)) 2) f in
    record {
      even_a = even a t1.0;
      even_b = even b t2.0;
      some_a = omega (arith, ltb-false (length (points a)) 2 c.0, points_length a);
      some_b = omega (arith, ltb-false (length (points b)) 2 c.1, points_length b);
      few_a = short a t1.0;
      few_b = short b t2.0;
      good_a = t4.0;
      good_b = t5.0;
    }

small : (b : Bool) (n m k : ℕ) → n ≤ k → m ≤ k → (unless n b then m) ≤ k
small true n m k h g = g
small false zero m k h g = g
small false (suc n) m k h g = rw (ne_eqb (suc n) 0 (λ q. omega arith)) h

-- LAYOUT or NUMBER
pub rails_small : (a b sync : List Float) → good_rails a b sync ≤ 2
unfolding good_rails
rails_small a b sync =
    small (good_line a) 1 _ 2 (omega arith) (small (good_line b) 1 _ 2 (omega arith) (small (good_sync sync) 1 _ 2 (omega arith)
    (small (good_numbers a) 2 _ 2 (omega arith) (small (good_numbers b) 2 _ 2 (omega arith) (last (good_numbers sync))))))
  where
    last : (b : Bool) → unless 2 b ≤ 2
    last true = omega arith
    last false = omega arith

-- ---- the pairs

module _ (a b sync : List Float) (step : Float) (some : few (rails_of a b sync) ≡ false) where
  abbrev ps : List P
  ps = places (ends_of (rails_of a b sync)) (points sync) step

  abbrev n : ℕ
  n = length (places (ends_of (rails_of a b sync)) (points sync) step)

  pub pairs_stored : flat (both_points (pairs (rails_of a b sync) step)) ≡ stored_pairs a b sync (places (ends_of (rails_of a b sync)) (points sync) step)
  unfolding pairs rails_of
  pairs_stored = rw some

  pub pairs_count : length (both_points (pairs (rails_of a b sync) step)) ≡ 2 * n
  pairs_count = omega (arith, flat_length (both_points (pairs (rails_of a b sync) step)), ap length pairs_stored, stored_length a b sync ps)

  both_length : (qs : List Pair) → length (both_points qs) ≡ 2 * length qs
  unfolding both_points
  both_length [] = refl
  both_length (q ∷ qs) = omega (arith, both_length qs)

  pairs_length : length (pairs (rails_of a b sync) step) ≡ n
  pairs_length = omega (arith, pairs_count, both_length (pairs (rails_of a b sync) step))

  most_one : most_of (rails_of a b sync) (step ∷ []) ≡ n
  unfolding most_of
  most_one = rw (le-leb 0 (length (pairs (rails_of a b sync) step)) (omega arith)) pairs_length

  module _ (work room : ℕ) where
    rest : ℕ
    rest = unless WORK (leb (need (rails_of a b sync) n) work) then fitted (both_points (pairs (rails_of a b sync) step)) room

    opened : pairs_passed a b sync step work room ≡ (unless SIZE (leb (count_of (ends_of (rails_of a b sync)) (points sync) step) most_pairs && true) then rest)
    unfolding pairs_passed passed sized rails_of rest
    opened = rw (some, most_one)

    pub passed_size : most_pairs < count_of (ends_of (rails_of a b sync)) (points sync) step → pairs_passed a b sync step work room ≡ SIZE
    passed_size h = opened ∙ rw (lt-leb _ most_pairs h)

    module _ (sizes : count_of (ends_of (rails_of a b sync)) (points sync) step ≤ most_pairs) where
      pub passed_work : work < need (rails_of a b sync) n → pairs_passed a b sync step work room ≡ WORK
      unfolding rest
      passed_work h = opened ∙ rw (le-leb _ most_pairs sizes, lt-leb _ work h)

      module _ (works : need (rails_of a b sync) n ≤ work) where
        pub passed_room : room < 4 * n → pairs_passed a b sync step work room ≡ ROOM
        unfolding rest fitted
        passed_room h = opened ∙ rw (le-leb _ most_pairs sizes, le-leb _ work works, lt-leb (length (flat (both_points (pairs (rails_of a b sync) step)))) room (omega (arith, h, flat_length (both_points (pairs (rails_of a b sync) step)), pairs_count)))

        pub passed_done : 4 * n ≤ room → pairs_passed a b sync step work room ≡ DONE
        unfolding rest fitted
        passed_done h = opened ∙ rw (le-leb _ most_pairs sizes, le-leb _ work works, le-leb (length (flat (both_points (pairs (rails_of a b sync) step)))) room (omega (arith, h, flat_length (both_points (pairs (rails_of a b sync) step)), pairs_count)))

-- ---- what the code works out

-- the pass that was asked for, from the ends that were found
module _ (a b sync : List Float) (step : Float) {ends : P} {w : Pass} (e : ends ≡ ends_of (rails_of a b [])) (f : w ≡ pass_of ends (points sync) step) where
  pub pass_n : w.n ≡ count_of (ends_of (rails_of a b sync)) (points sync) step
  unfolding pass_of ends_of rails_of
  pass_n = rw (f, e)

  pub pass_places : walk_places ends (points sync) w ≡ places (ends_of (rails_of a b sync)) (points sync) step
  unfolding ends_of rails_of
  pass_places = rw (f, e) (places_are (ends_of (rails_of a b [])) (points sync) step)

-- the need holds the pairs, twice
pub need_room : (a b sync : List Float) (n work : ℕ) → need (rails_of a b sync) n ≤ work → 8 * n ≤ work
unfolding need rails_of
need_room a b sync n work h = omega (arith, h)

-- whether a rail has too few corners doesn't hang on the sync points
pub few_any : (a b sync : List Float) → few (rails_of a b []) ≡ few (rails_of a b sync)
unfolding few rails_of
few_any a b sync = refl

-- a copy to the front leaves the slice as long as it was
pub copied_size : (d y m : List Float) → length m ≤ length d → y ≡ m ++ drop (length m) d → length y ≡ length d
copied_size d y m h e = ap length e ∙ length-append m (drop (length m) d) ∙ omega (arith, length-drop (length m) d)

-- ---- the call `pairs`, by its tests

module _ (a b sync : List Float) (step : Float) (work room : ℕ) where
  -- the rails are refused
  pub refused_rails : {n : ℕ} → n ≡ good_rails a b sync → (n ≡ 0 → ⊥) → pairs_refusal a b sync step work room ≡ n
  unfolding pairs_refusal
  refused_rails {n} e h = rw (← e, ne_eqb n 0 h)

  module _ (rails : good_rails a b sync ≡ 0) where
    pub refused_step : good_step step ≡ false → pairs_refusal a b sync step work room ≡ SETTING
    unfolding pairs_refusal
    refused_step e = rw (rails, e)

    module _ (ok : good_step step ≡ true) where
      pub passed_few : few (rails_of a b sync) ≡ true → pairs_refusal a b sync step work room ≡ DONE
      unfolding pairs_refusal passed
      passed_few e = rw (rails, ok, e)

      pub passed_on : pairs_refusal a b sync step work room ≡ pairs_passed a b sync step work room
      unfolding pairs_refusal pairs_passed
      passed_on = rw (rails, ok)

-- rails of too few corners give nothing
pub few_none : (a b sync : List Float) (step : Float) → few (rails_of a b sync) ≡ true → both_points (pairs (rails_of a b sync) step) ≡ []
unfolding pairs both_points
few_none a b sync step e = rw e

-- a refusal of 1 to 5 leaves the working slice as it was
pub worked_kept : (n : ℕ) (w : List Float) → (n ≡ 0 → ⊥) → n ≤ 5 → worked n w ≡ w
worked_kept zero w h g = absurd (h refl)
worked_kept (suc n) w h g = rw (le-leb 1 (suc n) (omega arith), le-leb (suc n) 5 g)

-- the pairs that stand in a slice are the ones that were laid
pub placed_in : (a b sync s : List Float) (ps : List P) → s ≡ stored_pairs a b sync ps → pairs_in (points s) ≡ placed a b sync ps
placed_in a b sync s ps e = ap (λ l. pairs_in (points l)) e ∙ ap pairs_in (points_flat (both_points (placed a b sync ps))) ∙ pairs_in_both (placed a b sync ps)
