-- What is proved of laying from place to place of a window, and from window to window. Assumes nothing.
use Rattle.std.specs.Prelude.{ℕ, ◌+◌, ◌-◌, ◌*◌, ◌/◌, ◌≤◌, ◌≡◌, true, take, Float}
use Rattle.std.proofs.Common.{arith, ◌∙◌, take_at}
use Rattle.std.proofs.Math.Path.{refl, ap}
use mathlib.Core.List.{List, [], ◌∷◌, ◌++◌}
use Rattle.std.proofs.Math.ListN.{length}
use Rattle.seqs.specs.Front.{Front, front_start, front_at, front_end}
use Rattle.numbers.specs.Num.{◌⊕◌, zero64}
use Rattle.geom.specs.declared.point.P.{P}
use Rattle.geom.specs.Outline.{points}
use Rattle.satinrules.specs.Pairs.{origin, kept, place_at, windows}
use Rattle.pairing.specs.declared.places.Pass.{Pass}
use Rattle.pairing.specs.Walk.{walk_places}
use Rattle.pairing.specs.WalkLaws.{places_count}
use Rattle.pairing.specs.Walking.{Walk, left_of, walk_at, goes_on}
use Rattle.pairing.specs.WalkingLaws.{goes_left, walk_goes}
use Rattle.pairing.specs.Store.{stored_pairs, put_within}
use Rattle.pairing.specs.StoreLaws.{stored_length, stored_none, within_size, pair_on, within_front}
use Rattle.pairing.specs.Laying.{Laying, Stretch}

module _ (a b : List Float) (step : Float) {w : List Float} where
  pub stretch_start : (l : Laying) → Stretch a b step w w l l
  stretch_start l = record { walk = refl; taken = refl; size = refl; count = λ ends sync. refl; laid = λ ends sync d whole h f. f }

  -- a place more
  pub stretch_on : {w' : List Float} {l r : Laying} (i j : ℕ) → Stretch a b step w w' l r → goes_on r.walk ≡ true
      → Stretch a b step w (put_within w' r.to (pair_on a b (place_at r.walk.from r.walk.to r.walk.s))) l (record { walk = walk_at r.walk (r.walk.s ⊕ step) (r.walk.left - 1); to = r.to + 4; a = i; b = j })
  stretch_on {w'} {l} {r} i j t e =
      let k = r.walk in
      let p = place_at k.from k.to k.s in
      let on = walk_at k (k.s ⊕ step) (k.left - 1) in
      record {
        walk = ap (λ (x : Walk). walk_at x (k.s ⊕ step) (k.left - 1)) t.walk;
        taken = omega (arith, t.taken, goes_left k e);
        size = within_size w' r.to (pair_on a b p) ∙ t.size;
        count = λ ends sync. omega (arith, t.count ends sync, ap length (walk_goes k e step ends sync));
        laid = λ ends sync d whole h f. within_front a b sync p (left_of step ends sync on ++ (ends ∷ [])) whole h (front_at (ap (λ x. stored_pairs a b sync (x ++ (ends ∷ []))) (walk_goes k e step ends sync)) (t.laid ends sync d whole h f));
      }

-- ---- a pass that is being laid

-- what has been written from the front, whatever stood there before
written : {d₀ d : List Float} {n : ℕ} {rest whole : List Float} → Front d₀ d n rest whole → Front d d n rest whole
written f = record { at = omega (arith, f.at, f.len); len = refl; done = f.done; tail = refl }

-- laying stands at l, over the slice w
pub record Lain (a b sync : List Float) (ends : P) (pass : Pass) (w : List Float) (l : Laying) : Type 0 where
  pub taken : l.to + 4 * l.walk.left ≡ 4 * pass.n
  pub count : l.to + 4 * length (left_of pass.step ends sync l.walk) + 4 ≡ 4 * length (walk_places ends (points sync) pass)
  pub laid : 4 * length (walk_places ends (points sync) pass) ≤ length w → Front w w l.to (stored_pairs a b sync (left_of pass.step ends sync l.walk ++ (ends ∷ []))) (stored_pairs a b sync (walk_places ends (points sync) pass))

module _ {a b sync : List Float} {ends : P} {pass : Pass} {w : List Float} where
  pub lain_start : (k : Walk) (i j : ℕ) → k.left ≡ pass.n → left_of pass.step ends sync k ≡ windows pass.step origin (kept ends origin (points sync)) zero64 pass.n → Lain a b sync ends pass w (record { walk = k; to = 0; a = i; b = j })
  unfolding walk_places
  lain_start k i j n e =
      record {
        taken = omega (arith, n);
        count = omega (arith, ap length e, places_count ends (points sync) pass);
        laid = λ h. rw e (front_start w _);
      }

  pub lain_on : {w' : List Float} {l r : Laying} → Lain a b sync ends pass w l → Stretch a b pass.step w w' l r → Lain a b sync ends pass w' r
  lain_on h t =
      record {
        taken = t.taken ∙ h.taken;
        count = omega (arith, t.count ends sync, h.count);
        laid = λ room.
            let same : 4 * length (walk_places ends (points sync) pass) ≤ length w = omega (arith, t.size, room) in
            written (t.laid ends sync w (walk_places ends (points sync) pass) same (h.laid same));
      }

  -- from window to window
  pub lain_next : {l : Laying} (k : Walk) (i j : ℕ) → k.left ≡ l.walk.left → left_of pass.step ends sync l.walk ≡ left_of pass.step ends sync k → Lain a b sync ends pass w l → Lain a b sync ends pass w (record { walk = k; to = l.to; a = i; b = j })
  lain_next k i j n e h =
      record {
        taken = omega (arith, n, h.taken);
        count = rw (← e) h.count;
        laid = rw (← e) h.laid;
      }

  -- the pair at the ends is the last
  module _ {l : Laying} (over : left_of pass.step ends sync l.walk ≡ []) (h : Lain a b sync ends pass w l) where
    pub lain_count : l.to / 4 + 1 ≡ length (walk_places ends (points sync) pass)
    lain_count = omega (arith, h.count, ap length over)

    pub lain_end : 4 * length (walk_places ends (points sync) pass) ≤ length w → take (4 * length (walk_places ends (points sync) pass)) (put_within w l.to (pair_on a b ends)) ≡ stored_pairs a b sync (walk_places ends (points sync) pass)
    lain_end room =
        let ps = walk_places ends (points sync) pass in
        let ls = stored_pairs a b sync ps in
        let f = front_at (ap (λ x. stored_pairs a b sync (x ++ (ends ∷ []))) over) (h.laid room) in
        let g = front_at (stored_none a b sync) (within_front a b sync ends [] ps room f) in
        rw (← stored_length a b sync ps) (ap (take (length ls)) (front_end g) ∙ take_at ls _ (length ls) refl)
