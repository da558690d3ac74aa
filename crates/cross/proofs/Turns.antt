-- The turns of the loops that write rows of stitches. Assumes nothing.
use Prim.Native.Nat.{ℕ, ◌+◌, ◌*◌, ◌≤◌, ◌<◌}
use native.Mathlib.Omega.{arith}
use mathlib.Core.Path.{◌≡◌, ap, ◌∙◌}
use mathlib.Core.List.{List, [], ◌∷◌, ◌++◌}
use lib.ListN.{length, take, set}
use lib.Ieee.{Float}
use Rattle.seqs.specs.Front.{Front, front_at, front_count, front_room, front_push, front_room_block, front_whole}
use Rattle.seqs.specs.Slices.{put}
use Rattle.seqs.specs.Wrote.{put_room, put_end}
use Rattle.geom.specs.declared.point.P.{P}
use Rattle.outlines.specs.declared.rule.FillRule.{FillRule}
use Rattle.geom.specs.Sewing.{flat}
use Rattle.geom.specs.SewingLaws.{flat_length, flat_append, points_room, points_put}
use Rattle.rules.specs.Calls.{sewn_points, sewn_ends}
use Rattle.rules.specs.CallLaws.{ends_length}
use Rattle.patterns_rules.specs.declared.Grid.{Grid}
use Rattle.patterns_rules.specs.declared.Run.{Run}
use Rattle.patterns_rules.specs.declared.Count.{Count}
use Rattle.patterns_rules.specs.Answers.{count_of}
use Rattle.patterns_rules.specs.Patterns.{cell_inside, out_and_back, row_lines, y_at}
use Rattle.patterns_rules.specs.LineLaws.{points_append, ends_append}
use Rattle.cross.specs.Cells.{NextRun, lines_in}
use Rattle.cross.specs.RowLaws.{row_length, rows_in, rows_next}
use Rattle.cross.specs.ScanLaws.{lines_then}

-- the two points m of a stitch are next
module _ {d₀ d : List Float} (k t : ℕ) (whole m rest : List P) (two : length m ≡ 2) (f : Front d₀ d (k + 4 * t) (flat (m ++ rest)) (take k d₀ ++ flat whole)) (fits : k + length (flat whole) ≤ length d₀) where
  room : length (take k d₀ ++ flat whole) ≤ length d₀
  room = put_room d₀ (flat whole) k fits

  pub stitch_room : k + 4 * t + 4 ≤ length d
  stitch_room = omega (arith, points_room m rest f room, two)

  pub stitch_put : (y : List Float) → y ≡ put d (k + 4 * t) (flat m) → Front d₀ y (k + 4 * (t + 1)) (flat rest) (take k d₀ ++ flat whole)
  stitch_put y e = let n : k + 4 * t + 2 * length m ≡ k + 4 * (t + 1) = omega (arith, two) in rw n at (points_put m rest f room y e)

-- a run is next
module _ (rings : List (List P)) (rule : FillRule) (g : Grid) (y : Float) {i : ℕ} {r : Run} (f : NextRun (cell_inside rings rule g y) g.columns i r) (at : ℕ) where
  after : List (List P)
  after = lines_in rings rule g y (r.first + r.many)

  module _ {d₀ d whole : List Float} (front : Front d₀ d (2 * at) (flat (sewn_points (lines_in rings rule g y i))) whole) (fits : length whole ≤ length d₀) where
    up : Front d₀ d (2 * at) (flat (out_and_back g y r ++ sewn_points after)) whole
    unfolding sewn_points after
    up = front_at (ap (λ (l : List (List P)). flat (sewn_points l)) (lines_then rings rule g y f)) front

    pub run_room : 2 * at + 8 * r.many ≤ length d
    run_room = omega (arith, points_room (out_and_back g y r) (sewn_points after) up fits, row_length g y r)

    pub run_put : (z : List Float) → z ≡ put d (2 * at) (flat (out_and_back g y r)) → Front d₀ z (2 * (at + 4 * r.many)) (flat (sewn_points (lines_in rings rule g y (r.first + r.many)))) whole
    unfolding after
    run_put z e =
        let n : 2 * at + 2 * length (out_and_back g y r) ≡ 2 * (at + 4 * r.many) = omega (arith, row_length g y r) in
        rw n at (points_put (out_and_back g y r) (sewn_points after) up fits z e)

  module _ {s : ℕ} {d₀ d whole : List ℕ} (front : Front d₀ d s (sewn_ends at (lines_in rings rule g y i)) whole) (fits : length whole ≤ length d₀) where
    stop : Front d₀ d s ((at + 4 * r.many) ∷ sewn_ends (at + 4 * r.many) after) whole
    unfolding sewn_ends after
    stop = front_at (ap (sewn_ends at) (lines_then rings rule g y f) ∙ rw (row_length g y r)) front

    pub stop_room : s < length d
    stop_room = front_room stop fits

    pub stop_put : Front d₀ (set d s (at + 4 * r.many)) (s + 1) (sewn_ends (at + 4 * r.many) (lines_in rings rule g y (r.first + r.many))) whole
    unfolding after
    stop_put = front_push stop stop_room

-- none is left of a row's lines
module _ (lines : List (List P)) {rest : List (List P)} (e : rest ≡ []) {d₀ d : List Float} {e₀ e₁ : List ℕ} (at s at₀ s₀ : ℕ) (f : Front d₀ d (2 * at) (flat (sewn_points rest)) (take (2 * at₀) d₀ ++ flat (sewn_points lines))) (h : Front e₀ e₁ s (sewn_ends at rest) (take s₀ e₀ ++ sewn_ends at₀ lines)) (low : 2 * at₀ ≤ length d₀) (few : s₀ ≤ length e₀) where
  pub rows_put : (d ≡ put d₀ (2 * at₀) (flat (sewn_points lines))) × (e₁ ≡ put e₀ s₀ (sewn_ends at₀ lines)) × (s ≡ s₀ + length lines) × (at ≡ at₀ + length (sewn_points lines))
  unfolding sewn_points sewn_ends flat
  rows_put =
      let x = put_end (flat (sewn_points lines)) (2 * at₀) low (front_at (ap (λ (l : List (List P)). flat (sewn_points l)) e) f) in
      let y = put_end (sewn_ends at₀ lines) s₀ few (front_at (ap (sewn_ends at) e) h) in
      (x.0, y.0, omega (arith, y.1, ends_length at₀ lines), omega (arith, x.1, flat_length (sewn_points lines)))

-- a row of cells is next
module _ (rings : List (List P)) (rule : FillRule) (g : Grid) (r : ℕ) (more : r < g.rows) (at : ℕ) where
  row : List (List P)
  row = row_lines rings rule g (y_at g r)

  below : List (List P)
  below = rows_in rings rule g (r + 1)

  module _ {d₀ d whole : List Float} (front : Front d₀ d (2 * at) (flat (sewn_points (rows_in rings rule g r))) whole) (fits : length whole ≤ length d₀) where
    both : Front d₀ d (2 * at) (flat (sewn_points row) ++ flat (sewn_points below)) whole
    unfolding row below
    both = front_at (ap (λ (l : List (List P)). flat (sewn_points l)) (rows_next rings rule g r more) ∙ ap flat (points_append row below) ∙ flat_append (sewn_points row) (sewn_points below)) front

    pub row_room : 2 * at + length (flat (sewn_points (row_lines rings rule g (y_at g r)))) ≤ length d
    unfolding row
    row_room = front_room_block (flat (sewn_points row)) (flat (sewn_points below)) both fits

    pub row_put : (z : List Float) → z ≡ put d (2 * at) (flat (sewn_points (row_lines rings rule g (y_at g r)))) → (n : ℕ) → n ≡ at + length (sewn_points (row_lines rings rule g (y_at g r))) → Front d₀ z (2 * n) (flat (sewn_points (rows_in rings rule g (r + 1)))) whole
    unfolding row below
    row_put z e n w =
        let m : 2 * at + length (flat (sewn_points row)) ≡ 2 * n = omega (arith, flat_length (sewn_points row)) in
        rw m at (front_whole (flat (sewn_points row)) (flat (sewn_points below)) z both row_room e)

  module _ {s : ℕ} {d₀ d whole : List ℕ} (front : Front d₀ d s (sewn_ends at (rows_in rings rule g r)) whole) (fits : length whole ≤ length d₀) where
    ends : Front d₀ d s (sewn_ends at row ++ sewn_ends (at + length (sewn_points row)) below) whole
    unfolding row below
    ends = front_at (ap (sewn_ends at) (rows_next rings rule g r more) ∙ ends_append at row below) front

    room_ends : s + length (sewn_ends at row) ≤ length d
    room_ends = front_room_block (sewn_ends at row) (sewn_ends (at + length (sewn_points row)) below) ends fits

    pub ends_room : s + length (row_lines rings rule g (y_at g r)) ≤ length d
    unfolding row
    ends_room = omega (arith, room_ends, ends_length at row)

    pub ends_put : (z : List ℕ) → z ≡ put d s (sewn_ends at (row_lines rings rule g (y_at g r))) → (t n : ℕ) → t ≡ s + length (row_lines rings rule g (y_at g r)) → n ≡ at + length (sewn_points (row_lines rings rule g (y_at g r))) → Front d₀ z t (sewn_ends n (rows_in rings rule g (r + 1))) whole
    unfolding row below
    ends_put z e t n u w =
        let m : s + length (sewn_ends at row) ≡ t = omega (arith, ends_length at row) in
        rw (m, ← w) at (front_whole (sewn_ends at row) (sewn_ends (at + length (sewn_points row)) below) z ends room_ends e)

-- all is written: the places are the counts
pub all_counted : (ls : List (List P)) {d₀ d : List Float} {e₀ e₁ : List ℕ} (done : Count) → Front d₀ d (2 * done.points) [] (flat (sewn_points ls)) → Front e₀ e₁ done.lines [] (sewn_ends 0 ls) → done ≡ count_of ls
unfolding count_of
all_counted ls done f h =
    let x : done.lines ≡ length ls = omega (arith, front_count h, ends_length 0 ls) in
    let y : done.points ≡ length (sewn_points ls) = omega (arith, front_count f, flat_length (sewn_points ls)) in
    rw (← x, ← y)
