-- A turn of the loop over the cuts of a way. Assumes nothing.
use Prim.Native.Nat.{ℕ, ◌+◌, ◌-◌, ◌≤◌}
use native.Mathlib.Omega.{arith}
use mathlib.Core.Path.{◌≡◌, ap}
use mathlib.Core.List.{List, ◌++◌}
use lib.ListN.{length}
use lib.IntN.{◌-ℤ◌}
use Rattle.seqs.specs.Slices.{put}
use Rattle.seqs.specs.Front.{Front, front_at, front_room_block, front_whole}
use Rattle.dst.specs.declared.place.Place.{Place}
use Rattle.dst.specs.Records.{bytes_of, record_of}
use Rattle.dst.specs.Thread.{Whole, move, parts, cut_at, cut, kind_at, cuts_from, way, records_from}
use Rattle.dst.specs.Lifted.{lowered, standing}
use Rattle.dst.specs.LiftedLaws.{lift_gap, gap_small}
use Rattle.dst.specs.ThreadLaws.{part_fits, cuts_next}

module _ (a b : Whole) (n : ℕ) (e : n ≡ parts (move a b)) where
  pub way_is : records_from a (way a b) ≡ records_from a (cuts_from a (move a b) n 1 (n + 1 - 1))
  unfolding way
  way_is = let f : n + 1 - 1 ≡ n = omega arith in rw (f, e)

  -- the needle stands at cut i - 1, and goes to cut i
  module _ (p q : Place) (i : ℕ) (lo : 1 ≤ i) (hi : i ≤ n) (from : standing p ≡ cut a (move a b) n (i - 1)) (to : standing q ≡ cut a (move a b) n i) where
    from_x : lowered p.x ≡ cut_at a.x (b.x -ℤ a.x) n (i - 1)
    from_x = ap (λ (w : Whole). w.x) from

    from_y : lowered p.y ≡ cut_at a.y (b.y -ℤ a.y) n (i - 1)
    from_y = ap (λ (w : Whole). w.y) from

    to_x : lowered q.x ≡ cut_at a.x (b.x -ℤ a.x) n i
    to_x = ap (λ (w : Whole). w.x) to

    to_y : lowered q.y ≡ cut_at a.y (b.y -ℤ a.y) n i
    to_y = ap (λ (w : Whole). w.y) to

    pub next_fits : (p.x ≤ 121 + q.x) × (p.y ≤ 121 + q.y)
    next_fits =
        let s : i - 1 + 1 ≡ i = omega arith in
        let f = part_fits a b (i - 1) in
        ((gap_small p.x q.x 121 (rw (s, ← e, ← from_x, ← to_x) at f.0)).0, (gap_small p.y q.y 121 (rw (s, ← e, ← from_y, ← to_y) at f.1)).0)

    next_is : records_from (standing p) (cuts_from a (move a b) n i (n + 1 - i)) ≡ bytes_of (kind_at i n) (121 + q.x - p.x) (121 + q.y - p.y) ++ records_from (standing q) (cuts_from a (move a b) n (i + 1) (n + 1 - (i + 1)))
    unfolding records_from record_of
    next_is = rw (cuts_next a (move a b) n i hi, ← to_x, ← to_y, lift_gap p.x q.x, lift_gap p.y q.y)

    module _ {d₀ d w : List ℕ} {k : ℕ} (f : Front d₀ d k (records_from (standing p) (cuts_from a (move a b) n i (n + 1 - i))) w) (fits : length w ≤ length d₀) where
      pub next_room : k + 3 ≤ length d
      unfolding bytes_of
      next_room = front_room_block (bytes_of (kind_at i n) (121 + q.x - p.x) (121 + q.y - p.y)) (records_from (standing q) (cuts_from a (move a b) n (i + 1) (n + 1 - (i + 1)))) (front_at next_is f) fits

      pub next_put : (d' : List ℕ) → d' ≡ put d k (bytes_of (kind_at i n) (121 + q.x - p.x) (121 + q.y - p.y)) → Front d₀ d' (k + 3) (records_from (standing q) (cuts_from a (move a b) n (i + 1) (n + 1 - (i + 1)))) w
      unfolding bytes_of
      next_put d' h = front_whole (bytes_of (kind_at i n) (121 + q.x - p.x) (121 + q.y - p.y)) (records_from (standing q) (cuts_from a (move a b) n (i + 1) (n + 1 - (i + 1)))) d' (front_at next_is f) next_room h
