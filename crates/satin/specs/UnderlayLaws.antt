-- What is proved of the underlay's passes: each by its thread over the pairs. Assumes nothing.
use Rattle.std.specs.Prelude.{ℕ, ◌+◌, ◌*◌, ◌/◌, ◌%◌, ◌≤◌, ◌≡◌, refl, Bool, true, false, not, ◌||◌, cond, List, [], ◌∷◌, ◌++◌, eqb, length, take, drop, Float}
use Rattle.std.proofs.Common.{arith, ◌∙◌, append_assoc, length-append, eq-eqb, ne_eqb}
use Rattle.std.proofs.Math.Path.{sym, ap}
use Rattle.seqs.specs.Tests.{clash}
use Rattle.geom.specs.declared.point.P.{P}
use Rattle.seqs.specs.Slices.{put}
use Rattle.seqs.specs.Put.{put_length}
use Rattle.geom.specs.Outline.{points}
use Rattle.geom.specs.Sewing.{flat}
use Rattle.geom.specs.SewingLaws.{flat_length}
use Rattle.satinrules.specs.declared.Satin.{Satin}
use Rattle.satinrules.specs.declared.Pair.{Pair}
use Rattle.satinrules.specs.Settings.{zigzag_underlay_spacing}
use Rattle.satinrules.specs.Flat.{flat_then}
use Rattle.satinrules.specs.Pairs.{pairs}
use Rattle.satinrules.specs.Column.{turned_if, only_if, bit, stitches, after_centre, centre_pass, contour_pass, zigzag_pass, underlay}
use Rattle.satinrules.specs.Calls.{rails_of}
use Rattle.pairing.specs.declared.places.Pass.{Pass}
use Rattle.pairing.specs.Walk.{walk_places}
use Rattle.pairing.specs.WalkLaws.{places_count}
use Rattle.pairing.specs.Store.{stored_pairs}
use Rattle.pairing.specs.StoreLaws.{put_back}
use Rattle.passes.specs.declared.threads.Thread.{Thread}
use Rattle.passes.specs.declared.threads.Thread.TheVariants.{Middle, SideA, SideB, Alternate}
use Rattle.passes.specs.Threads.{pairs_in, thread_of}
use Rattle.passes.specs.ThreadsLaws.{thread_length, middle_thread, a_thread, b_thread, alternate_thread, turned_length}
use Rattle.passes.specs.TopLaws.{stitches_length}
use Rattle.satin.specs.Passed.{placed}
use Rattle.satin.specs.PassedLaws.{pass_places, placed_in}
use Rattle.satin.specs.Underlay.{Fit, runs, over_if, runs_over, underlay_count}

module _ {a b sync : List Float} {step : Float} {ends : P} {pass : Pass} {n : ℕ} (f : Fit a b sync step ends pass n) where
  pub fit_pairs : placed a b sync (walk_places ends (points sync) pass) ≡ pairs (rails_of a b sync) step
  unfolding pairs rails_of
  fit_pairs = ap (placed a b sync) (pass_places a b sync step f.end f.asked) ∙ rw f.some

  pub fit_count : length (pairs (rails_of a b sync) step) ≡ n
  fit_count = ap length (sym fit_pairs) ∙ map_length (walk_places ends (points sync) pass) ∙ sym f.count
    where
      map_length : (ps : List P) → length (placed a b sync ps) ≡ length ps
      map_length [] = refl
      map_length (p ∷ ps) = omega (arith, map_length ps)

  pub fit_some : 1 ≤ n
  fit_some = omega (arith, f.count, places_count ends (points sync) pass)

  -- the pairs as they stand once they are laid
  pub fit_laid : (w : List Float) → take (4 * length (walk_places ends (points sync) pass)) w ≡ stored_pairs a b sync (walk_places ends (points sync) pass) → pairs_in (points (take (4 * n) w)) ≡ pairs (rails_of a b sync) step
  fit_laid w e = rw f.count (placed_in a b sync (take (4 * length (walk_places ends (points sync) pass)) w) (walk_places ends (points sync) pass) e ∙ fit_pairs)

  -- the stitches over them, read back from behind them
  pub fit_stitches : (g : Satin) (d y : List Float) → 8 * n ≤ length d → y ≡ put d (4 * n) (flat (stitches g (pairs (rails_of a b sync) step)))
      → (length y ≡ length d) × (take (4 * n) (drop (4 * n) y) ≡ flat (stitches g (pairs (rails_of a b sync) step)))
  fit_stitches g d y h e =
      let m = flat (stitches g (pairs (rails_of a b sync) step)) in
      let s : length m ≡ 4 * n = omega (arith, flat_length (stitches g (pairs (rails_of a b sync) step)), stitches_length g (pairs (rails_of a b sync) step), fit_count) in
      (ap length e ∙ put_length d m (4 * n) (omega (arith, s)), ap (λ (k : ℕ). take k (drop (4 * n) y)) (sym s) ∙ ap (λ (l : List Float). take (length m) (drop (4 * n) l)) e ∙ put_back d m (4 * n) (omega arith))

  pub fit_length : (t : Thread) (back : Bool) → length (turned_if back (thread_of t (pairs (rails_of a b sync) step))) ≡ n
  fit_length t back = turned_length (thread_of t (pairs (rails_of a b sync) step)) back ∙ thread_length t 0 (pairs (rails_of a b sync) step) ∙ fit_count

-- ---- the bits

pub bit_one : (g : Satin) → g.underlay / 1 ≡ g.underlay
bit_one g = omega arith

module _ (g : Satin) where
  pub first_on : g.underlay % 2 ≡ 1 → bit g 1 ≡ true
  first_on h = eq-eqb (g.underlay / 1 % 2) 1 (omega (arith, bit_one g))

  pub first_off : (g.underlay % 2 ≡ 1 → ⊥) → bit g 1 ≡ false
  first_off h = ne_eqb (g.underlay / 1 % 2) 1 (λ e. h (omega (arith, bit_one g)))

  pub end_is : eqb (g.underlay % 2) 1 ≡ after_centre g
  unfolding after_centre
  end_is = rw (bit_one g)

-- ---- the passes

module _ (a b sync : List Float) (g : Satin) where
  pub centre_is : centre_pass (rails_of a b sync) g false ≡ turned_if false (thread_of Middle (pairs (rails_of a b sync) g.run_len))
  unfolding centre_pass
  centre_is = sym (middle_thread (pairs (rails_of a b sync) g.run_len))

  pub contour_is : (end : Bool) → contour_pass (rails_of a b sync) g end ≡ turned_if end (thread_of SideA (pairs (rails_of a b sync) g.run_len)) ++ turned_if (not end) (thread_of SideB (pairs (rails_of a b sync) g.run_len))
  unfolding contour_pass
  contour_is end = rw (a_thread (pairs (rails_of a b sync) g.run_len), b_thread (pairs (rails_of a b sync) g.run_len))

  pub zigzag_is : (end : Bool) → zigzag_pass (rails_of a b sync) end ≡ turned_if end (thread_of Alternate (pairs (rails_of a b sync) zigzag_underlay_spacing))
  unfolding zigzag_pass
  zigzag_is end = rw (alternate_thread (pairs (rails_of a b sync) zigzag_underlay_spacing))

-- ---- the underlay by its passes over pairs

pub or_left : (x y : Bool) → x ≡ true → (x || y) ≡ true
or_left true y e = refl
or_left false y e = clash e refl

pub or_right : (x y : Bool) → y ≡ true → (x || y) ≡ true
or_right true y e = refl
or_right false y e = e

only_same : (sewn : Bool) (x y : List P) → (sewn ≡ true → x ≡ y) → only_if sewn x ≡ only_if sewn y
only_same true x y e = e refl
only_same false x y e = refl

only_append : (sewn : Bool) (x y : List P) → only_if sewn x ++ only_if sewn y ≡ only_if sewn (x ++ y)
only_append true x y = refl
only_append false x y = refl

module _ (a b sync : List Float) (g : Satin) (qs zs : List Pair) (e : runs g ≡ true → qs ≡ pairs (rails_of a b sync) g.run_len) (f : bit g 4 ≡ true → zs ≡ pairs (rails_of a b sync) zigzag_underlay_spacing) where
  centre_over : over_if (bit g 1) Middle false qs ≡ only_if (bit g 1) (centre_pass (rails_of a b sync) g false)
  centre_over = only_same (bit g 1) (thread_of Middle qs) (centre_pass (rails_of a b sync) g false) (λ t. ap (thread_of Middle) (e (or_left (bit g 1) (bit g 2) t)) ∙ sym (centre_is a b sync g))

  contour_over : over_if (bit g 2) SideA (after_centre g) qs ++ over_if (bit g 2) SideB (not (after_centre g)) qs ≡ only_if (bit g 2) (contour_pass (rails_of a b sync) g (after_centre g))
  contour_over =
      let end = after_centre g in
      let both : List Pair → List P = λ l. turned_if end (thread_of SideA l) ++ turned_if (not end) (thread_of SideB l) in
      only_append (bit g 2) (turned_if end (thread_of SideA qs)) (turned_if (not end) (thread_of SideB qs))
      ∙ only_same (bit g 2) (both qs) (contour_pass (rails_of a b sync) g end) (λ t. ap both (e (or_right (bit g 1) (bit g 2) t)) ∙ sym (contour_is a b sync g end))

  zigzag_over : over_if (bit g 4) Alternate (after_centre g) zs ≡ only_if (bit g 4) (zigzag_pass (rails_of a b sync) (after_centre g))
  zigzag_over =
      let end = after_centre g in
      only_same (bit g 4) (turned_if end (thread_of Alternate zs)) (zigzag_pass (rails_of a b sync) end) (λ t. ap (λ (l : List Pair). turned_if end (thread_of Alternate l)) (f t) ∙ sym (zigzag_is a b sync g end))

  pub underlay_over : runs_over g qs ++ over_if (bit g 4) Alternate (after_centre g) zs ≡ underlay (rails_of a b sync) g
  unfolding runs_over underlay
  underlay_over = rw (centre_over, contour_over, zigzag_over) (append_assoc (only_if (bit g 1) (centre_pass (rails_of a b sync) g false)) (only_if (bit g 2) (contour_pass (rails_of a b sync) g (after_centre g))) (only_if (bit g 4) (zigzag_pass (rails_of a b sync) (after_centre g))))

-- points that are put leave the slice as long as it was
pub run_size : (d y : List Float) (m : List P) (k : ℕ) → k + 2 * length m ≤ length d → y ≡ put d k (flat m) → length y ≡ length d
run_size d y m k h e = ap length e ∙ put_length d (flat m) k (omega (arith, flat_length m))

-- ---- the three passes in order

pub three_length : (c k z : List P) → length (c ++ (k ++ z)) ≡ length c + length k + length z
three_length c k z = omega (arith, length-append c (k ++ z), length-append k z)

module _ (d d₁ : List Float) (c k z : List P) (fits : 2 * length (c ++ (k ++ z)) ≤ length d) (e : d₁ ≡ put d 0 (flat c)) where
  first_size : length d₁ ≡ length d
  first_size = run_size d d₁ c 0 (omega (arith, fits, three_length c k z)) e

  pub second_room : 2 * length c + 2 * length k ≤ length d₁
  second_room = omega (arith, fits, three_length c k z, first_size)

  module _ (d₂ : List Float) (i : ℕ) (at : i ≡ 0 + 2 * length c) (f : d₂ ≡ put d₁ i (flat k)) where
    pub third_room : 2 * length c + 2 * length k + 2 * length z ≤ length d₂
    third_room = omega (arith, fits, three_length c k z, first_size, run_size d₁ d₂ k i (omega (arith, second_room)) f)

    pub three_put : (y : List Float) (j : ℕ) → j ≡ i + 2 * length k → y ≡ put d₂ j (flat z) → y ≡ put d 0 (flat (c ++ (k ++ z)))
    three_put y j h g =
        let t : y ≡ put d₁ i (flat (k ++ z)) = flat_then d₁ d₂ k z i (omega (arith, fits, three_length c k z, first_size, length-append k z)) f y j h g in
        flat_then d d₁ c (k ++ z) 0 (omega (arith, fits)) e y i at t

    pub three_size : (y : List Float) (j : ℕ) → j ≡ i + 2 * length k → y ≡ put d₂ j (flat z) → length y ≡ length d
    three_size y j h g = run_size d y (c ++ (k ++ z)) 0 (omega (arith, fits)) (three_put y j h g)

-- ---- the count

only_length : (sewn : Bool) (l : List P) (n : ℕ) → (sewn ≡ true → length l ≡ n) → length (only_if sewn l) ≡ cond sewn n 0
only_length true l n e = e refl
only_length false l n e = refl

pub underlay_count_lem : {a b sync : List Float} {ends : P} {run zigzag : Pass} {n m : ℕ} (g : Satin) → (runs g ≡ true → Fit a b sync g.run_len ends run n) → (bit g 4 ≡ true → Fit a b sync zigzag_underlay_spacing ends zigzag m) → length (underlay (rails_of a b sync) g) ≡ underlay_count g n m
unfolding underlay underlay_count
underlay_count_lem {a} {b} {sync} {n = n} {m = m} g f h =
    let r = rails_of a b sync in
    let end = after_centre g in
    let c : bit g 1 ≡ true → length (centre_pass r g false) ≡ n = λ t. ap length (centre_is a b sync g) ∙ fit_length (f (or_left (bit g 1) (bit g 2) t)) Middle false in
    let k : bit g 2 ≡ true → length (contour_pass r g end) ≡ 2 * n = λ t.
    let w = f (or_right (bit g 1) (bit g 2) t) in
    ap length (contour_is a b sync g end) ∙ length-append (turned_if end (thread_of SideA (pairs r g.run_len))) (turned_if (not end) (thread_of SideB (pairs r g.run_len))) ∙ omega (arith, fit_length w SideA end, fit_length w SideB (not end)) in
    let z : bit g 4 ≡ true → length (zigzag_pass r end) ≡ m = λ t. ap length (zigzag_is a b sync g end) ∙ fit_length (h t) Alternate end in
    three_length (only_if (bit g 1) (centre_pass r g false)) (only_if (bit g 2) (contour_pass r g end)) (only_if (bit g 4) (zigzag_pass r end))
    ∙ omega (arith, only_length (bit g 1) (centre_pass r g false) n c, only_length (bit g 2) (contour_pass r g end) (2 * n) k, only_length (bit g 4) (zigzag_pass r end) m z)
