-- A turn of each loop over the passes. Assumes nothing.
use Prim.Native.Nat.{ℕ, suc, ◌+◌, ◌-◌, ◌*◌, ◌%◌, ◌≤◌, ◌<◌}
use native.Mathlib.Omega.{arith}
use native.Mathlib.Nat.{zero-mul, suc-mul}
use mathlib.Core.Path.{◌≡◌, ap, ◌∙◌}
use mathlib.Core.Bool.{Bool, cond}
use mathlib.Core.List.{List, [], ◌∷◌, ◌++◌}
use lib.Dec.{eqb}
use lib.ListN.{length, take, drop}
use lib.Ieee.{Float}
use Rattle.seqs.specs.Front.{Front, front_at, front_take}
use Rattle.seqs.specs.Slices.{put}
use Rattle.seqs.specs.Wrote.{put_room}
use Rattle.seqs.specs.Reverse.{place_below}
use Rattle.geom.specs.Outline.{points}
use Rattle.geom.specs.OutlineLaws.{corner_at}
use Rattle.geom.specs.Sewing.{flat}
use Rattle.geom.specs.SewingLaws.{flat_length, points_room, points_put}
use Rattle.stroke.specs.Running.{pass, passes_from, standing}
use Rattle.stroke.specs.RunningLaws.{turned, pass_length, pass_next, standing_length, standing_kept, passes_next}

-- point r of a pass over the first n is next
module _ {d₀ d : List Float} {at : ℕ} (k n : ℕ) (back : Bool) (r : ℕ)
    (f : Front d₀ d at (flat (drop r (turned (standing d₀ n) back))) (take k d₀ ++ flat (pass (standing d₀ n) back)))
    (le : 2 * n ≤ k) (fits : k + 2 * (n - 1) ≤ length d₀) (ge : k ≤ at) (more : r < n) where
  has : 2 * n ≤ length d₀
  has = omega arith

  room : length (take k d₀ ++ flat (pass (standing d₀ n) back)) ≤ length d₀
  room =
      let one = standing d₀ n in
      put_room d₀ (flat (pass one back)) k (omega (arith, flat_length (pass one back), pass_length one back, standing_length d₀ n has))

  next_up : Front d₀ d at (flat (corner_at (take (2 * n) d₀) (2 * cond back (n - 1 - r) r) ∷ drop (r + 1) (turned (standing d₀ n) back))) (take k d₀ ++ flat (pass (standing d₀ n) back))
  next_up = front_at (ap flat (pass_next d₀ n has back r more)) f

  pub pass_room : at + 2 ≤ length d
  pass_room = omega (arith, points_room (corner_at (take (2 * n) d₀) (2 * cond back (n - 1 - r) r) ∷ []) (drop (r + 1) (turned (standing d₀ n) back)) next_up room)

  pub pass_step : (y : List Float) → y ≡ put d at (flat (corner_at d (2 * cond back (n - 1 - r) r) ∷ [])) → Front d₀ y (at + 2) (flat (drop (r + 1) (turned (standing d₀ n) back))) (take k d₀ ++ flat (pass (standing d₀ n) back))
  pass_step y e =
      let j = cond back (n - 1 - r) r in
      let s = standing_kept d₀ n has (flat (pass (standing d₀ n) back)) k j f ge le (place_below back r n more) in
      points_put (corner_at (take (2 * n) d₀) (2 * j) ∷ []) (drop (r + 1) (turned (standing d₀ n) back)) next_up room y (rw s at e)

-- pass t is next
module _ {d₀ d : List Float} {at : ℕ} (n t p : ℕ)
    (f : Front d₀ d at (flat (passes_from (standing d₀ n) t (p - t))) (take (2 * n) d₀ ++ flat (passes_from (standing d₀ n) 1 (p - 1))))
    (fits : 2 * n + length (flat (passes_from (standing d₀ n) 1 (p - 1))) ≤ length d₀) (ge : 2 * n ≤ at) (more : t < p) where
  pass_up : Front d₀ d at (flat (pass (standing d₀ n) (eqb (t % 2) 1) ++ passes_from (standing d₀ n) (t + 1) (p - (t + 1)))) (take (2 * n) d₀ ++ flat (passes_from (standing d₀ n) 1 (p - 1)))
  pass_up = front_at (ap flat (passes_next (standing d₀ n) t p more)) f

  long : length (pass (standing d₀ n) (eqb (t % 2) 1)) ≡ n - 1
  long = pass_length (standing d₀ n) (eqb (t % 2) 1) ∙ ap (λ (m : ℕ). m - 1) (standing_length d₀ n (omega arith))

  whole : length (take (2 * n) d₀ ++ flat (passes_from (standing d₀ n) 1 (p - 1))) ≤ length d₀
  whole = put_room d₀ (flat (passes_from (standing d₀ n) 1 (p - 1))) (2 * n) fits

  pub run_room : at + 2 * (n - 1) ≤ length d
  run_room = omega (arith, long, points_room (pass (standing d₀ n) (eqb (t % 2) 1)) (passes_from (standing d₀ n) (t + 1) (p - (t + 1))) pass_up whole)

  same : standing d n ≡ standing d₀ n
  same = ap points (front_take (flat (passes_from (standing d₀ n) t (p - t))) (flat (passes_from (standing d₀ n) 1 (p - 1))) (2 * n) (2 * n) f ge (omega arith))

  pub run_step : (y : List Float) → y ≡ put d at (flat (pass (standing d n) (eqb (t % 2) 1))) → Front d₀ y (at + 2 * (n - 1)) (flat (passes_from (standing d₀ n) (t + 1) (p - (t + 1)))) (take (2 * n) d₀ ++ flat (passes_from (standing d₀ n) 1 (p - 1)))
  run_step y e =
      let g = points_put (pass (standing d₀ n) (eqb (t % 2) 1)) (passes_from (standing d₀ n) (t + 1) (p - (t + 1))) pass_up whole y (rw same at e) in
      rw long at g

-- so of their count
pub passes_left : (t p s : ℕ) → t < p → (p - t) * s ≡ s + (p - (t + 1)) * s
passes_left t p s h = let e : p - t ≡ suc (p - (t + 1)) = omega arith in rw e (omega (arith, suc-mul (p - (t + 1)) s))

pub passes_done : (t p s : ℕ) → p ≤ t → (p - t) * s ≡ 0
passes_done t p s h = let e : p - t ≡ 0 = omega arith in rw e (zero-mul s)
