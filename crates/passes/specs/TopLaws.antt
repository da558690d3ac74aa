-- What is proved of the top's stitches over pairs that stand in a slice. Assumes nothing.
use Rattle.std.specs.Prelude.{ℕ, suc, ◌+◌, ◌*◌, ◌/◌, ◌≤◌, ◌<◌, ◌≡◌, refl, Bool, false, not, ◌&&◌, List, [], ◌∷◌, ◌++◌, length, take, drop, get_or, Float, T}
use Rattle.std.proofs.Common.{arith, sym, ap, ◌∙◌, append_assoc, drop-drop, length-take-le, get_or-take}
use Rattle.std.proofs.Math.Bool.{true}
use Rattle.std.specs.Float.{nan, binary64}
use Rattle.std.specs.Float.Ieee.{fits, le, lt, round}
use Rattle.numbers.specs.Num.{literal}
use Rattle.numbers.specs.Root.{isqrt, near_root, root_units, root}
use Rattle.numbers.specs.Laws.{holds}
use Rattle.numbers.proofs.Laws.{root_mono}
use Rattle.numbers.specs.FloatOrder.{le_lt_clash}
use Rattle.seqs.specs.Tests.{refute}
use Rattle.seqs.specs.Slices.{put}
use Rattle.seqs.specs.Front.{Front, front_at, front_kept, next, none}
use Rattle.seqs.specs.Wrote.{head_length, put_room}
use Rattle.geom.specs.declared.point.P.{P}
use Rattle.geom.specs.Outline.{points}
use Rattle.geom.specs.Sewing.{flat}
use Rattle.geom.specs.SewingLaws.{flat_length, points_room, points_put}
use Rattle.satinrules.specs.declared.Pair.{Pair}
use Rattle.satinrules.specs.declared.Satin.{Satin}
use Rattle.satinrules.specs.Settings.{short_dist}
use Rattle.satinrules.specs.Column.{widened, crowded, pulled, stitch, stitches_from, stitches}
use Rattle.passes.specs.Threads.{pair_in, pairs_in, moved_in}
use Rattle.passes.specs.ThreadsLaws.{no_pair, slice_at, slice_length}

from_length : (g : Satin) (second : Bool) (o : Pair) (qs : List Pair) → length (stitches_from g second o qs) ≡ 2 * length qs
unfolding stitches_from stitch
from_length g second o [] = refl
from_length g second o (q ∷ qs) = omega (arith, from_length g (not second) q qs)

pub stitches_length : (g : Satin) (qs : List Pair) → length (stitches g qs) ≡ 2 * length qs
unfolding stitches
stitches_length g [] = refl
stitches_length g (q ∷ qs) = from_length g false q (q ∷ qs)

-- ---- a path's corners, copied as they stand

pub flat_points : (l : List Float) → flat (points l) ≡ take (length l / 2 * 2) l
unfolding flat points
flat_points [] = refl
flat_points (x ∷ []) = refl
flat_points (x ∷ y ∷ l) =
    let e : length (x ∷ y ∷ l) / 2 * 2 ≡ suc (suc (length l / 2 * 2)) = omega arith in
    rw e (ap (λ (r : List Float). x ∷ y ∷ r) (flat_points l))

-- a part of a slice, written whole
pub mid_put : (d y : List Float) (k n : ℕ) → k ≤ length d → length y ≡ n → take k d ++ (y ++ drop n (drop k d)) ≡ put d k y
mid_put d y k n h e = rw (head_length d y k h, ← e, drop-drop) (sym (append_assoc (take k d) y (drop (k + length y) d)))

-- ---- one stitch, short or not

module _ (g : Satin) (second : Bool) (o q : Pair) where
  pub stitch_short : g.short_stitches ≡ true → second ≡ true
      → stitch g second o q ≡ (moved_in (widened g q) (crowded q.a o.a) (crowded q.b o.b)).a ∷ (moved_in (widened g q) (crowded q.a o.a) (crowded q.b o.b)).b ∷ []
  unfolding stitch moved_in
  stitch_short e f = let h : (g.short_stitches && second) ≡ true = rw e f in rw h

  long : (g.short_stitches && second) ≡ false → stitch g second o q ≡ (widened g q).a ∷ (widened g q).b ∷ []
  unfolding stitch pulled
  long h = rw h

  pub stitch_first : g.short_stitches ≡ true → second ≡ false → stitch g second o q ≡ (widened g q).a ∷ (widened g q).b ∷ []
  stitch_first e f = long (rw e f)

  pub stitch_long : g.short_stitches ≡ false → stitch g second o q ≡ (widened g q).a ∷ (widened g q).b ∷ []
  stitch_long e = long (rw e)

-- from the square of 2.5 on, no root is below it
square_root : root (literal 25 4) ≡ short_dist
unfolding literal round short_dist root root_units near_root isqrt
square_root = refl

pub not_crowded : (s : Float) → T (fits binary64 s) → le (literal 25 4) s ≡ true → lt (root s) short_dist ≡ false
unfolding literal round
not_crowded s f h = refute _ (λ e. absurd (le_lt_clash (root (literal 25 4)) (root s) (root_mono (literal 25 4) s (unfold fits in tt) f (unfold le in tt) (holds h)) (rw square_root (holds e))))

-- ---- n pairs stand at the front of w₀
module _ (w₀ : List Float) (n : ℕ) (has : 4 * n ≤ length w₀) where
  abbrev pub stand : List Pair
  stand = pairs_in (points (take (4 * n) w₀))

  part_length : length (take (4 * n) w₀) ≡ 4 * n
  part_length = length-take-le (4 * n) w₀ has

  pub stand_length : length (pairs_in (points (take (4 * n) w₀))) ≡ n
  stand_length = omega (arith, slice_length (take (4 * n) w₀), part_length)

  part_read : (j : ℕ) → j < 4 * n → get_or (take (4 * n) w₀) j nan ≡ get_or w₀ j nan
  part_read j h = get_or-take (4 * n) w₀ j nan h

  pub stand_at : (k : ℕ) → k < n → get_or (pairs_in (points (take (4 * n) w₀))) k no_pair ≡ pair_in w₀ (4 * k)
  stand_at k h =
      slice_at (take (4 * n) w₀) k (omega (arith, part_length))
      ∙ rw (part_read (4 * k) (omega arith), part_read (4 * k + 1) (omega arith), part_read (4 * k + 2) (omega arith), part_read (4 * k + 2 + 1) (omega arith))

  stand_next : (k : ℕ) → k < n → drop k (pairs_in (points (take (4 * n) w₀))) ≡ pair_in w₀ (4 * k) ∷ drop (k + 1) (pairs_in (points (take (4 * n) w₀)))
  stand_next k h = next (pairs_in (points (take (4 * n) w₀))) k no_pair (omega (arith, stand_length)) ∙ ap (λ (q : Pair). q ∷ drop (k + 1) (pairs_in (points (take (4 * n) w₀)))) (stand_at k h)

  -- they are read as they stood, whatever is written behind them
  module _ {w : List Float} {to : ℕ} {rest : List Float} (x : List Float) (f : Front w₀ w to rest (take (4 * n) w₀ ++ x)) (le : 4 * n ≤ to) where
    read_kept : (j : ℕ) → j < 4 * n → get_or w j nan ≡ get_or w₀ j nan
    read_kept j h = front_kept x (4 * n) (4 * n) j nan f le h (omega arith) ∙ get_or-take (4 * n) w₀ j nan h

    pub pair_kept : (k : ℕ) → k < n → pair_in w (4 * k) ≡ pair_in w₀ (4 * k)
    pair_kept k h = rw (read_kept (4 * k) (omega arith), read_kept (4 * k + 1) (omega arith), read_kept (4 * k + 2) (omega arith), read_kept (4 * k + 2 + 1) (omega arith))

  pub stitches_start : (g : Satin) → 1 ≤ n → stitches g (pairs_in (points (take (4 * n) w₀))) ≡ stitches_from g false (pair_in w₀ 0) (pairs_in (points (take (4 * n) w₀)))
  unfolding stitches
  stitches_start g h = rw (stand_next 0 (omega arith))

  pub stitches_none : (g : Satin) (second : Bool) (o : Pair) (k : ℕ) → n ≤ k → stitches_from g second o (drop k (pairs_in (points (take (4 * n) w₀)))) ≡ []
  unfolding stitches_from
  stitches_none g second o k h = rw (none (pairs_in (points (take (4 * n) w₀))) k (omega (arith, stand_length)))

  stitches_next : (g : Satin) (second : Bool) (o : Pair) (k : ℕ) → k < n
      → stitches_from g second o (drop k (pairs_in (points (take (4 * n) w₀)))) ≡ stitch g second o (pair_in w₀ (4 * k)) ++ stitches_from g (not second) (pair_in w₀ (4 * k)) (drop (k + 1) (pairs_in (points (take (4 * n) w₀))))
  unfolding stitches_from
  stitches_next g second o k h = rw (stand_next k h)

  -- the stitch of pair k is next
  module _ (room : 8 * n ≤ length w₀) (g : Satin) (second : Bool) (o : Pair) (k : ℕ) (more : k < n) {w : List Float} {to : ℕ}
      (f : Front w₀ w to (flat (stitches_from g second o (drop k (pairs_in (points (take (4 * n) w₀)))))) (take (4 * n) w₀ ++ flat (stitches g (pairs_in (points (take (4 * n) w₀)))))) where
    abbrev here : List P
    here = stitch g second o (pair_in w₀ (4 * k))

    abbrev later : List P
    later = stitches_from g (not second) (pair_in w₀ (4 * k)) (drop (k + 1) (pairs_in (points (take (4 * n) w₀))))

    up : Front w₀ w to (flat (here ++ later)) (take (4 * n) w₀ ++ flat (stitches g (pairs_in (points (take (4 * n) w₀)))))
    up = front_at (ap flat (stitches_next g second o k more)) f

    whole : length (take (4 * n) w₀ ++ flat (stitches g (pairs_in (points (take (4 * n) w₀))))) ≤ length w₀
    whole = put_room w₀ (flat (stitches g (pairs_in (points (take (4 * n) w₀))))) (4 * n) (omega (arith, room, flat_length (stitches g (pairs_in (points (take (4 * n) w₀)))), stitches_length g (pairs_in (points (take (4 * n) w₀))), stand_length))

    pub stitch_room : to + 4 ≤ length w
    unfolding stitch
    stitch_room = omega (arith, points_room here later up whole)

    pub stitch_put : (y : List Float) → y ≡ put w to (flat (stitch g second o (pair_in w₀ (4 * k)))) → Front w₀ y (to + 4) (flat (stitches_from g (not second) (pair_in w₀ (4 * k)) (drop (k + 1) (pairs_in (points (take (4 * n) w₀)))))) (take (4 * n) w₀ ++ flat (stitches g (pairs_in (points (take (4 * n) w₀)))))
    unfolding stitch
    stitch_put y e = points_put here later up whole y e
