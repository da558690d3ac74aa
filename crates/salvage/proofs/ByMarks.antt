-- What is written by the marks is what the call's outcome says. Assumes nothing.
use Prim.Native.Nat.{ℕ, ◌-◌, ◌*◌, ◌/◌, ◌≤◌}
use native.Mathlib.Omega.{arith}
use mathlib.Core.Path.{◌≡◌, sym, ap, ◌∙◌}
use mathlib.Core.Bool.{true, ◌&&◌}
use mathlib.Core.List.{List, ◌++◌}
use lib.Dec.{leb}
use lib.ListN.{length, drop}
use lib.Ieee.{Float}
use Rattle.seqs.specs.Sift.{sift_length}
use Rattle.geom.specs.Outline.{points, cut, rising}
use Rattle.geom.specs.OutlineLaws.{points_length}
use Rattle.geom.specs.Sewing.{flat}
use Rattle.geom.specs.SewingLaws.{flat_length}
use Rattle.limits.specs.Limits.{good_outline}
use Rattle.limits.specs.LimitsLaws.{outline_layout}
use Rattle.salvage.specs.Ring.{kept, left}
use Rattle.salvage.specs.Salvage.{marks, dropped_places, dropped_reasons, kept_rings, kept_corners, kept_ends, fits, outcome, outcome_by}
use Rattle.salvage.specs.RingLaws.{count, left_count}
use Rattle.salvage.specs.OutlineLaws.{join, counted_ends, outline_marks, left_corners, left_ends_lem, places_length, reasons_length, kept_count, fits_is, few_corners}

module _ (corners : List Float) (ends ms : List ℕ) (good : good_outline corners ends ≡ true) (e : ms ≡ marks corners ends) where
  rise : rising 0 ends (length corners / 2) ≡ true
  rise = (outline_layout corners ends good).rise

  size : length ms ≡ length corners / 2
  size = ap length e ∙ outline_marks corners ends rise

  pub sized : length corners ≡ 2 * length ms
  sized = omega (arith, size, (outline_layout corners ends good).even)

  pub rise_marks : rising 0 ends (length ms) ≡ true
  rise_marks = rw size rise

  pub count_few : count ms ≤ 1024
  count_few = omega (arith, sift_length kept ms, size, few_corners corners ends good)

  module _ (n : ℕ) (c : n ≡ count ms) where
    pub fits_by : (cs es ps rs : ℕ) → fits corners ends cs es ps rs ≡ (leb (2 * n) cs && leb (length ends) es && leb (length ms - n) ps && leb (length ms - n) rs)
    fits_by cs es ps rs = fits_is corners ends rise n (length ms - n) cs es ps rs (c ∙ ap count e) (omega (arith, c, ap length e, ap count e))

    pub corners_room : (cs : ℕ) → 2 * n ≤ cs → length (flat (left ms (points corners))) ≤ cs
    corners_room cs h = omega (arith, flat_length (left ms (points corners)), left_count ms (points corners) (size ∙ sym (points_length corners)))

    pub places_room : (ps : ℕ) → length ms - n ≤ ps → length (dropped_places 0 ms) ≤ ps
    places_room ps h = omega (arith, places_length 0 ms)

    pub reasons_room : (rs : ℕ) → length ms - n ≤ rs → length (dropped_reasons ms) ≤ rs
    reasons_room rs h = omega (arith, reasons_length ms)

    pub all_written : (cs cs' : List Float) (es es' ps ps' rs rs' : List ℕ)
        → cs' ≡ flat (left ms (points corners)) ++ drop (length (flat (left ms (points corners)))) cs
        → es' ≡ counted_ends 0 (cut 0 ends ms) ++ drop (length (counted_ends 0 (cut 0 ends ms))) es
        → ps' ≡ dropped_places 0 ms ++ drop (length (dropped_places 0 ms)) ps
        → rs' ≡ dropped_reasons ms ++ drop (length (dropped_reasons ms)) rs
        → outcome (record { answer = 0; corners = n; dropped = length ms - n }) cs' es' ps' rs' ≡ outcome_by 0 corners ends cs es ps rs
    unfolding outcome_by kept_corners kept_ends
    all_written cs cs' es es' ps ps' rs rs' w x y z =
        let d : length ms - n ≡ length (dropped_places 0 ms) = omega (arith, places_length 0 ms) in
        let k : n ≡ length (join (kept_rings corners ends)) = c ∙ ap count e ∙ sym (kept_count corners ends rise) in
        rw (d, k, w, x, y, z, e, left_corners corners ends rise, left_ends_lem corners ends rise)
