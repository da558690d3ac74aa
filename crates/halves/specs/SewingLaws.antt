-- What is proved of each half once the rails are accepted: its count, where it stands, and which answer it is. Assumes nothing.
use Rattle.std.specs.Prelude.{ℕ, ◌+◌, ◌-◌, ◌*◌, ◌/◌, ◌≤◌, ◌<◌, ◌≡◌, Bool, true, false, drop, Float}
use Rattle.std.proofs.Common.{arith, sym, ◌∙◌, le-leb}
use Rattle.std.proofs.Math.Path.{ap}
use mathlib.Core.List.{List}
use Rattle.std.proofs.Math.ListN.{length, take}
use Rattle.std.proofs.lemmas.Bool.{lt-leb}
use Rattle.refusal.specs.Refusal.{DONE, SIZE, WORK, ROOM}
use Rattle.seqs.specs.Slices.{put}
use Rattle.seqs.specs.Put.{put_length}
use Rattle.geom.specs.declared.point.P.{P}
use Rattle.geom.specs.Outline.{points}
use Rattle.geom.specs.Sewing.{flat, fitted}
use Rattle.geom.specs.SewingLaws.{flat_length, points_flat}
use Rattle.satinrules.specs.declared.Pair.{Pair}
use Rattle.satinrules.specs.declared.Satin.{Satin}
use Rattle.satinrules.specs.Pairs.{few}
use Rattle.satinrules.specs.Column.{spacing_of, stitches, styled, underlay, top}
use Rattle.satinrules.specs.Calls.{rails_of, underlay_steps, top_steps, sized, most_of, need}
use Rattle.satinrules.specs.CallLaws.{answer_size, answer_work, answer_fitted}
use Rattle.pairing.specs.declared.places.Pass.{Pass}
use Rattle.pairing.specs.Walk.{walk_places}
use Rattle.pairing.specs.Store.{stored_pairs}
use Rattle.pairing.specs.StoreLaws.{put_back}
use Rattle.passes.specs.Threads.{pairs_in}
use Rattle.passes.specs.TopLaws.{stitches_length, stand_length}
use Rattle.satin.specs.Underlay.{Fit}
use Rattle.satin.specs.UnderlayLaws.{fit_laid}
use Rattle.column.specs.Topping.{top_of}
use Rattle.column.specs.ToppingLaws.{top_is, top_length}
use Rattle.column.specs.HalvesLaws.{lent_path}
use Rattle.halves.specs.Sewing.{underlay_passed, top_passed, top_over}

-- ---- points that are counted, and the count compared with the room

module _ (ps : List P) (room : ℕ) {c : ℕ} (e : c ≡ length ps) where
  pub too_many : room / 2 < c → fitted ps room ≡ ROOM
  unfolding fitted
  too_many h = rw (lt-leb (length (flat ps)) room (omega (arith, flat_length ps, e)))

  pub has_room : c ≤ room / 2 → 2 * length ps ≤ room
  has_room h = omega (arith, e)

  pub all_fit : c ≤ room / 2 → fitted ps room ≡ DONE
  unfolding fitted
  all_fit h = rw (le-leb (length (flat ps)) room (omega (arith, flat_length ps, e)))

-- ---- the top over the t pairs at the front of d, its stitches put behind them

module _ (g : Satin) (t : ℕ) (d y : List Float) (has : 8 * t ≤ length d) (e : y ≡ put d (4 * t) (flat (stitches g (pairs_in (points (take (4 * t) d)))))) where
  path : List Float
  path = flat (stitches g (pairs_in (points (take (4 * t) d))))

  path_length : length path ≡ 4 * t
  unfolding path
  path_length =
      let qs = pairs_in (points (take (4 * t) d)) in
      omega (arith, flat_length (stitches g qs), stitches_length g qs, stand_length d t (omega (arith, has)))

  pub behind_size : length y ≡ length d
  unfolding path
  behind_size = ap length e ∙ put_length d path (4 * t) (omega (arith, path_length, has))

  -- the stitches as they are lent
  path_lent : take (4 * t + 4 * t - 4 * t) (drop (4 * t) y) ≡ path
  unfolding path
  path_lent =
      let back : take (4 * t) (drop (4 * t) y) ≡ path = ap (λ (k : ℕ). take k (drop (4 * t) y)) (sym path_length) ∙ ap (λ (l : List Float). take (length path) (drop (4 * t) l)) e ∙ put_back d path (4 * t) (omega (arith, has)) in
      lent_path (4 * t) (4 * t) y path back

  pub over_path : (far : Bool) → top_of far g (points (take (4 * t + 4 * t - 4 * t) (drop (4 * t) y))) ≡ top_over far g t d
  unfolding path
  over_path far = ap (λ (l : List Float). top_of far g (points l)) path_lent ∙ ap (top_of far g) (points_flat (stitches g (pairs_in (points (take (4 * t) d)))))

  pub over_count : (far : Bool) → length (styled g.split g.style (points (take (4 * t + 4 * t - 4 * t) (drop (4 * t) y)))) ≡ length (top_over far g t d)
  over_count far = sym (top_length far g (points (take (4 * t + 4 * t - 4 * t) (drop (4 * t) y)))) ∙ ap length (over_path far)

-- and where they are the pairs of the pass that the settings ask for
pub over_is : {a b sync : List Float} (g : Satin) {ends : P} {pass : Pass} {t : ℕ} → Fit a b sync (spacing_of g) ends pass t → (far : Bool) (w : List Float)
    → take (4 * t) w ≡ stored_pairs a b sync (walk_places ends (points sync) pass) → top_over far g t w ≡ top far (rails_of a b sync) g
over_is {a} {b} {sync} g f far w e =
    ap (λ (qs : List Pair). top_of far g (stitches g qs)) (fit_laid f w (ap (λ (k : ℕ). take (4 * k) w) (sym f.count) ∙ e))
    ∙ sym (top_is far (rails_of a b sync) g)

-- ---- which answer it is

module _ (a b sync : List Float) (g : Satin) (work room : ℕ) (some : few (rails_of a b sync) ≡ false) where
  pub underlay_size : sized (rails_of a b sync) (underlay_steps g) ≡ false → underlay_passed a b sync g work room ≡ SIZE
  unfolding underlay_passed
  underlay_size h = answer_size (rails_of a b sync) (underlay_steps g) (underlay (rails_of a b sync) g) work room some h

  module _ (ok : sized (rails_of a b sync) (underlay_steps g) ≡ true) where
    pub underlay_work_lem : work < need (rails_of a b sync) (most_of (rails_of a b sync) (underlay_steps g)) → underlay_passed a b sync g work room ≡ WORK
    unfolding underlay_passed
    underlay_work_lem h = answer_work (rails_of a b sync) (underlay_steps g) (underlay (rails_of a b sync) g) work room some ok h

    pub underlay_fitted : need (rails_of a b sync) (most_of (rails_of a b sync) (underlay_steps g)) ≤ work → underlay_passed a b sync g work room ≡ fitted (underlay (rails_of a b sync) g) room
    unfolding underlay_passed
    underlay_fitted h = answer_fitted (rails_of a b sync) (underlay_steps g) (underlay (rails_of a b sync) g) work room some ok h

  module _ (far : Bool) where
    pub top_size : sized (rails_of a b sync) (top_steps g) ≡ false → top_passed a b sync g far work room ≡ SIZE
    unfolding top_passed
    top_size h = answer_size (rails_of a b sync) (top_steps g) (top far (rails_of a b sync) g) work room some h

    module _ (ok : sized (rails_of a b sync) (top_steps g) ≡ true) where
      pub top_work_lem : work < need (rails_of a b sync) (most_of (rails_of a b sync) (top_steps g)) → top_passed a b sync g far work room ≡ WORK
      unfolding top_passed
      top_work_lem h = answer_work (rails_of a b sync) (top_steps g) (top far (rails_of a b sync) g) work room some ok h

      pub top_fitted : need (rails_of a b sync) (most_of (rails_of a b sync) (top_steps g)) ≤ work → top_passed a b sync g far work room ≡ fitted (top far (rails_of a b sync) g) room
      unfolding top_passed
      top_fitted h = answer_fitted (rails_of a b sync) (top_steps g) (top far (rails_of a b sync) g) work room some ok h
