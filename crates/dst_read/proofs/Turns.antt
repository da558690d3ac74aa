-- A turn of the writing, and its end. Assumes nothing.
use Prim.Native.Nat.{ℕ, ◌+◌, ◌-◌, ◌*◌, ◌≤◌, ◌<◌}
use native.Mathlib.Omega.{arith}
use mathlib.Core.Path.{◌≡◌, ap, ◌∙◌}
use mathlib.Core.List.{List, [], ◌∷◌}
use lib.ListN.{length, drop, get_or, set}
use lib.Ieee.{Float}
use Rattle.seqs.specs.Front.{Front, front_at, front_push, front_push2}
use Rattle.numbers.specs.Num.{real}
use Rattle.dst.specs.Said.{added_x, taken_x, added_y, taken_y, said_x, said_y}
use Rattle.dst.specs.Thread.{Whole}
use Rattle.dst_read.specs.Record.{mark_of}
use Rattle.dst_read.specs.Reading.{goes, points_from, coordinates, marks_of}
use Rattle.dst_read.specs.ReadingLaws.{points_next}
use Rattle.dst_read.specs.Lifted.{lowered, whole_at}
use Rattle.dst_read.specs.LiftedLaws.{lowered_moved}

-- record r of n, read as a, b and c: the weights that it adds and takes off
module _ (l : List ℕ) (n r : ℕ) (m : r < n) (h : 3 * n ≤ length l) (x y a b c px mx py my : ℕ) (ea : a ≡ get_or l (3 * r) 0) (eb : b ≡ get_or l (3 * r + 1) 0) (ec : c ≡ get_or l (3 * r + 2) 0) (apx : px ≡ added_x a b c) (tmx : mx ≡ taken_x a b c) (apy : py ≡ added_y a b c) (tmy : my ≡ taken_y a b c) (hx : mx ≤ x + px) (hy : my ≤ y + py) where
  there : goes (whole_at x y) a b c ≡ whole_at (x + px - mx) (y + py - my)
  unfolding said_x said_y
  there = rw (lowered_moved x px mx hx, lowered_moved y py my hy, apx, tmx, apy, tmy)

  turn : points_from (whole_at x y) (n - r) (drop (3 * r) l) ≡ record { mark = mark_of c; to = whole_at (x + px - mx) (y + py - my) } ∷ points_from (whole_at (x + px - mx) (y + py - my)) (n - (r + 1)) (drop (3 * (r + 1)) l)
  turn = points_next l r (omega arith) a b c ea eb ec (whole_at x y) n m ∙ ap (λ (p : Whole). record { mark = mark_of c; to = p } ∷ points_from p (n - (r + 1)) (drop (3 * (r + 1)) l)) there

  -- the point and its mark are stored
  pub put_next : {d₀ d v : List Float} {e₀ e w : List ℕ} → Front d₀ d (2 * r) (coordinates (points_from (whole_at x y) (n - r) (drop (3 * r) l))) v → Front e₀ e r (marks_of (points_from (whole_at x y) (n - r) (drop (3 * r) l))) w → 2 * n ≤ length d₀ → n ≤ length e₀ → (f g : Float) (k : ℕ) → f ≡ real (lowered (x + px - mx)) → g ≡ real (lowered (y + py - my)) → k ≡ mark_of c
      → Front d₀ (set (set d (2 * r) f) (2 * r + 1) g) (2 * (r + 1)) (coordinates (points_from (whole_at (x + px - mx) (y + py - my)) (n - (r + 1)) (drop (3 * (r + 1)) l))) v × Front e₀ (set e r k) (r + 1) (marks_of (points_from (whole_at (x + px - mx) (y + py - my)) (n - (r + 1)) (drop (3 * (r + 1)) l))) w
  unfolding coordinates marks_of
  put_next s t room marks f g k ef eg ek =
      let e : 2 * (r + 1) ≡ 2 * r + 2 = omega arith in
      (rw (ef, eg, e) (front_push2 (front_at (ap coordinates turn) s) (omega (arith, s.len))), rw ek (front_push (front_at (ap marks_of turn) t) (omega (arith, t.len))))

module _ (l : List ℕ) (at : Whole) (n r : ℕ) (m : n ≤ r) where
  none_left : points_from at (n - r) l ≡ []
  unfolding points_from
  none_left = let e : n - r ≡ 0 = omega arith in rw e

  pub last_points : coordinates (points_from at (n - r) l) ≡ []
  unfolding coordinates
  last_points = rw none_left

  pub last_marks : marks_of (points_from at (n - r) l) ≡ []
  unfolding marks_of
  last_marks = rw none_left
