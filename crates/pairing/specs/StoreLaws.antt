-- What is proved of the running lengths of both rails, and of the working slice of pairs. Assumes nothing.
use Rattle.std.specs.Prelude.{ℕ, ◌+◌, ◌-◌, ◌*◌, ◌/◌, ◌≤◌, ◌<◌, ◌≡◌, leb, take, drop, get_or, Float}
use Rattle.std.proofs.Common.{arith, sym, ◌∙◌, inl, inr, length-append, length-take-le, take_at, drop_at, get_or-take, get_or-drop, le-leb, leb-true}
use Rattle.std.proofs.Math.Path.{refl, ap}
use mathlib.Core.List.{List, [], ◌∷◌, ◌++◌, map, append_assoc}
use Rattle.std.proofs.Math.ListN.{length}
use Rattle.std.specs.Float.{nan}
use Rattle.std.proofs.lemmas.Bool.{lt-leb}
use Rattle.seqs.specs.Slices.{put}
use Rattle.seqs.specs.Put.{put_length}
use Rattle.seqs.specs.Front.{Front, front_start, front_at, front_end}
use Rattle.seqs.specs.Tests.{either}
use Rattle.numbers.specs.Num.{◌⊕◌, zero64}
use Rattle.geom.specs.declared.point.P.{P}
use Rattle.geom.specs.Point.{dist}
use Rattle.geom.specs.Outline.{points}
use Rattle.geom.specs.OutlineLaws.{points_length}
use Rattle.geom.specs.Sewing.{flat}
use Rattle.geom.specs.SewingLaws.{flat_length, points_room, points_put}
use Rattle.polyline.specs.Line.{length_from, polyline_length}
use Rattle.satinrules.specs.declared.Pair.{Pair}
use Rattle.satinrules.specs.Arc.{lengths_from, lengths, rail_at}
use Rattle.satinrules.specs.Pairs.{ends_of, pair_at}
use Rattle.satinrules.specs.Calls.{rails_of, both_points}
use Rattle.arc.specs.RailLaws.{lengths_count}
use Rattle.arc.specs.Rise.{railed}
use Rattle.pairing.specs.Store.{Laid, Ended, Sound, stored_pairs, put_within}

pub rail_count : (l : List Float) → length (lengths (points l)) ≡ length l / 2
rail_count l = lengths_count (points l) ∙ points_length l

-- ---- the running lengths

module _ (a b d : List Float) (room : length a / 2 + length b / 2 ≤ length d) where
  both_count : length (lengths (points a) ++ lengths (points b)) ≡ length a / 2 + length b / 2
  both_count = omega (arith, length-append (lengths (points a)) (lengths (points b)), rail_count a, rail_count b)

  pub rails_size : (y : List Float) → y ≡ put d 0 (lengths (points a) ++ lengths (points b)) → length y ≡ length d
  rails_size y e = ap length e ∙ put_length d (lengths (points a) ++ lengths (points b)) 0 (omega (arith, both_count))

  -- what writing them leaves
  pub laid_made : (y : List Float) → y ≡ put d 0 (lengths (points a) ++ lengths (points b)) → Sound a b → Laid a b y
  laid_made y e s =
      let la = lengths (points a) in
      let lb = lengths (points b) in
      let rest = drop (length (la ++ lb)) d in
      let f : y ≡ la ++ (lb ++ rest) = e ∙ append_assoc la lb rest in
      record {
        room = omega (arith, room, rails_size y e);
        on_a = ap (take (length a / 2)) f ∙ take_at la (lb ++ rest) (length a / 2) (rail_count a);
        on_b = ap (λ l. take (length b / 2) (drop (length a / 2) l)) f ∙ ap (take (length b / 2)) (drop_at la (lb ++ rest) (length a / 2) (rail_count a)) ∙ take_at lb rest (length b / 2) (rail_count b);
        rail_a = railed a s.even_a s.some_a s.good_a;
        rail_b = railed b s.even_b s.some_b s.good_b;
      }

-- ---- the pairs

pub two_size : (d y : List Float) (p q : P) (to : ℕ) → to + 4 ≤ length d → y ≡ put d to (flat (p ∷ q ∷ [])) → length y ≡ length d
two_size d y p q to h e = ap length e ∙ put_length d (flat (p ∷ q ∷ [])) to (omega (arith, flat_length (p ∷ q ∷ [])))

module _ (a b sync : List Float) where
  both_length : (qs : List Pair) → length (both_points qs) ≡ 2 * length qs
  unfolding both_points
  both_length [] = refl
  both_length (q ∷ qs) = omega (arith, both_length qs)

  map_length : (ps : List P) → length (map (pair_at (rails_of a b sync)) ps) ≡ length ps
  map_length [] = refl
  map_length (p ∷ ps) = omega (arith, map_length ps)

  pub stored_length : (ps : List P) → length (stored_pairs a b sync ps) ≡ 4 * length ps
  stored_length ps = omega (arith, flat_length (both_points (map (pair_at (rails_of a b sync)) ps)), both_length (map (pair_at (rails_of a b sync)) ps), map_length ps)

  -- the pair at p is next
  module _ {d₀ d : List Float} {to : ℕ} (p : P) (rest whole : List P)
      (f : Front d₀ d to (stored_pairs a b sync (p ∷ rest)) (stored_pairs a b sync whole))
      (fits : 4 * length whole ≤ length d₀) where
    both : List P
    both = (pair_at (rails_of a b sync) p).a ∷ (pair_at (rails_of a b sync) p).b ∷ []

    up : Front d₀ d to (flat (both ++ both_points (map (pair_at (rails_of a b sync)) rest))) (stored_pairs a b sync whole)
    unfolding both both_points
    up = f

    room : length (stored_pairs a b sync whole) ≤ length d₀
    room = omega (arith, fits, stored_length whole)

    pub pair_room : to + 4 ≤ length d
    unfolding both
    pair_room = omega (arith, points_room both (both_points (map (pair_at (rails_of a b sync)) rest)) up room)

    pub pair_put : (y : List Float) → y ≡ put d to (flat ((pair_at (rails_of a b sync) p).a ∷ (pair_at (rails_of a b sync) p).b ∷ [])) → Front d₀ y (to + 4) (stored_pairs a b sync rest) (stored_pairs a b sync whole)
    unfolding both
    pair_put y e = points_put both (both_points (map (pair_at (rails_of a b sync)) rest)) up room y e

pub stored_none : (a b sync : List Float) → stored_pairs a b sync [] ≡ []
unfolding both_points flat
stored_none a b sync = refl

-- ---- a stretch of laying

module _ (w : List Float) (to : ℕ) (q : Pair) where
  pub within_put : to + 4 ≤ length w → put_within w to q ≡ put w to (flat (q.a ∷ q.b ∷ []))
  within_put h = rw (le-leb (to + 4) (length w) h)

  pub within_none : length w < to + 4 → put_within w to q ≡ w
  within_none h = rw (lt-leb (to + 4) (length w) h)

  pub within_size : length (put_within w to q) ≡ length w
  within_size = elim (either (leb (to + 4) (length w))) [
    | inl e ↦ rw e (two_size w (put w to (flat (q.a ∷ q.b ∷ []))) q.a q.b to (leb-true (to + 4) (length w) e) refl)
    | inr e ↦ rw e
  ]

-- the pair at a place
abbrev pub pair_on : List Float → List Float → P → Pair
pair_on a b p = record { a = rail_at (points a) p.x; b = rail_at (points b) p.y }

-- the next pair is put, where the whole has room
pub within_front : (a b sync : List Float) {d w : List Float} {to : ℕ} (p : P) (rest whole : List P) → 4 * length whole ≤ length d
    → Front d w to (stored_pairs a b sync (p ∷ rest)) (stored_pairs a b sync whole) → Front d (put_within w to (pair_on a b p)) (to + 4) (stored_pairs a b sync rest) (stored_pairs a b sync whole)
unfolding pair_at rails_of
within_front a b sync {d} {w} {to} p rest whole h f = pair_put a b sync p rest whole f h (put_within w to (pair_on a b p)) (within_put w to (pair_on a b p) (pair_room a b sync p rest whole f h))

-- ---- a pass that is being laid

-- what has been written from the front, whatever stood there before
written : {d₀ d : List Float} {n : ℕ} {rest whole : List Float} → Front d₀ d n rest whole → Front d d n rest whole
written f = record { at = omega (arith, f.at, f.len); len = refl; done = f.done; tail = refl }

-- the pairs before `to` stand at the front of w, and those at the places ps are still to be laid
pub record Lain (a b sync : List Float) (whole ps : List P) (w : List Float) (to : ℕ) : Type 0 where
  pub count : to + 4 * length ps ≡ 4 * length whole
  pub laid : 4 * length whole ≤ length w → Front w w to (stored_pairs a b sync ps) (stored_pairs a b sync whole)

module _ (a b sync : List Float) {whole : List P} {w : List Float} where
  pub lain_start : Lain a b sync whole whole w 0
  lain_start = record { count = omega arith; laid = λ h. front_start w _ }

  pub lain_next : {ps : List P} {to : ℕ} (p : P) (rest : List P) → ps ≡ p ∷ rest → Lain a b sync whole ps w to → Lain a b sync whole rest (put_within w to (pair_on a b p)) (to + 4)
  lain_next {ps} {to} p rest e h =
      let s = within_size w to (pair_on a b p) in
      record {
        count = omega (arith, h.count, ap length e);
        laid = λ room. let r : 4 * length whole ≤ length w = omega (arith, s, room) in written (within_front a b sync p rest whole r (front_at (ap (stored_pairs a b sync) e) (h.laid r)));
      }

  pub lain_end : {ps : List P} {to : ℕ} → ps ≡ [] → Lain a b sync whole ps w to → (to / 4 ≡ length whole) × (4 * length whole ≤ length w → take (4 * length whole) w ≡ stored_pairs a b sync whole)
  lain_end e h =
      let ls = stored_pairs a b sync whole in
      let n = stored_length a b sync whole in
      (omega (arith, h.count, ap length e), λ room. rw (← n) (ap (take (length ls)) (front_end (front_at (ap (stored_pairs a b sync) e ∙ stored_none a b sync) (h.laid room))) ∙ take_at ls _ (length ls) refl))

-- what was put is read back
pub put_back : (d m : List Float) (k : ℕ) → k ≤ length d → take (length m) (drop k (put d k m)) ≡ m
put_back d m k h =
    let rest = drop (length (take k d ++ m)) d in
    ap (λ l. take (length m) (drop k l)) (append_assoc (take k d) m rest) ∙ ap (take (length m)) (drop_at (take k d) (m ++ rest) k (length-take-le k d h)) ∙ take_at m rest (length m) refl

-- ---- the lengths of the rails

last_from : (s : Float) (p : P) (ps : List P) → get_or (s ∷ lengths_from s p ps) (length ps) nan ≡ length_from s p ps
unfolding lengths_from length_from
last_from s p [] = refl
last_from s p (q ∷ ps) = last_from (s ⊕ dist p q) q ps

-- the last of a rail's running lengths is its length
last_length : (ps : List P) → 1 ≤ length ps → get_or (lengths ps) (length ps - 1) nan ≡ polyline_length ps
unfolding lengths polyline_length
last_length [] h = absurd (omega arith)
last_length (p ∷ ps) h = let e : length (p ∷ ps) - 1 ≡ length ps = omega arith in rw e (last_from zero64 p ps)

module _ {a b rails : List Float} (l : Laid a b rails) where
  pub last_a : get_or rails (length a / 2 - 1) nan ≡ polyline_length (points a)
  last_a =
      let n : 1 ≤ length a / 2 = omega (arith, l.rail_a.some, rail_count a) in
      sym (get_or-take (length a / 2) rails (length a / 2 - 1) nan (omega (arith, n))) ∙ ap (λ (r : List Float). get_or r (length a / 2 - 1) nan) l.on_a
      ∙ ap (λ (k : ℕ). get_or (lengths (points a)) (k - 1) nan) (sym (points_length a)) ∙ last_length (points a) (omega (arith, n, points_length a))

  pub last_b : get_or rails (length a / 2 + length b / 2 - 1) nan ≡ polyline_length (points b)
  last_b =
      let n : 1 ≤ length b / 2 = omega (arith, l.rail_b.some, rail_count b) in
      let e : length a / 2 + (length b / 2 - 1) ≡ length a / 2 + length b / 2 - 1 = omega (arith, n) in
      ap (λ (k : ℕ). get_or rails k nan) (sym e) ∙ sym (get_or-drop (length a / 2) rails (length b / 2 - 1) nan)
      ∙ sym (get_or-take (length b / 2) (drop (length a / 2) rails) (length b / 2 - 1) nan (omega (arith, n))) ∙ ap (λ (r : List Float). get_or r (length b / 2 - 1) nan) l.on_b
      ∙ ap (λ (k : ℕ). get_or (lengths (points b)) (k - 1) nan) (sym (points_length b)) ∙ last_length (points b) (omega (arith, n, points_length b))

  pub some_a_lem : 1 ≤ length a / 2
  some_a_lem = omega (arith, l.rail_a.some, rail_count a)

  pub some_b_lem : 1 ≤ length b / 2
  some_b_lem = omega (arith, l.rail_b.some, rail_count b)

-- the place where both rails end
pub in_step : {a b : List Float} {ends : P} → Ended a b ends → ends ≡ ends_of (rails_of a b [])
unfolding ends_of rails_of
in_step e = rw (← e.at_a, ← e.at_b) refl
