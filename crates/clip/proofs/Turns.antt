-- A turn of the loop that writes the runs. Assumes nothing.
use Prim.Native.Nat.{ℕ, ◌+◌, ◌*◌, ◌≤◌}
use native.Mathlib.Omega.{arith}
use mathlib.Core.Path.{◌≡◌, sym, ap, ◌∙◌}
use mathlib.Core.Bool.{Bool, false}
use mathlib.Core.List.{List, [], ◌∷◌, ◌++◌, append-nil}
use lib.ListN.{length}
use lib.Ieee.{Float}
use Rattle.seqs.specs.Front.{Front, front_at, front_count, front_room_block, front_whole}
use Rattle.seqs.specs.Slices.{put}
use Rattle.geom.specs.declared.point.P.{P}
use Rattle.outlines.specs.declared.rule.FillRule.{FillRule}
use Rattle.geom.specs.Sewing.{flat}
use Rattle.geom.specs.SewingLaws.{flat_length, flat_append}
use Rattle.rules.specs.Calls.{sewn_points, sewn_ends}
use Rattle.rules.specs.CallLaws.{ends_length}
use Rattle.patterns_rules.specs.Answers.{count_of}
use Rattle.patterns_rules.specs.Patterns.{piece_inside}
use Rattle.clip.specs.Clip.{added, ended, points_from, ends_from}
use Rattle.clip.specs.LineLaws.{points_piece, ends_piece}

-- the piece from p to q is next, and is kept or not
module _ (rings : List (List P)) (rule : FillRule) (on : Bool) (p q : P) (rest : List P) {k : Bool} (t : k ≡ piece_inside rings rule p q) (at : ℕ) where
  module _ {d₀ d whole : List Float} (f : Front d₀ d (2 * at) (flat (points_from rings rule on p (q ∷ rest))) whole) (fits : length whole ≤ length d₀) where
    later : List P
    later = points_from rings rule k q rest

    up : Front d₀ d (2 * at) (flat (added k on p q) ++ flat later) whole
    unfolding later
    up = front_at (ap flat (points_piece rings rule on p q rest t) ∙ flat_append (added k on p q) later) f

    pub added_room : 2 * at + length (flat (added k on p q)) ≤ length d
    added_room = front_room_block (flat (added k on p q)) (flat later) up fits

    pub added_put : (y : List Float) → y ≡ put d (2 * at) (flat (added k on p q)) → {r : ℕ} → r ≡ length (added k on p q) → Front d₀ y (2 * (at + r)) (flat (points_from rings rule k q rest)) whole
    unfolding later
    added_put y w {r} n =
        let m : 2 * at + length (flat (added k on p q)) ≡ 2 * (at + r) = omega (arith, flat_length (added k on p q)) in
        rw m at (front_whole (flat (added k on p q)) (flat later) y up added_room w)

  module _ {s : ℕ} {d₀ d whole : List ℕ} (f : Front d₀ d s (ends_from rings rule on at p (q ∷ rest)) whole) (fits : length whole ≤ length d₀) where
    others : List ℕ
    others = ends_from rings rule k (at + length (added k on p q)) q rest

    next : Front d₀ d s (ended k on at ++ others) whole
    unfolding others
    next = front_at (ends_piece rings rule on p q rest t at) f

    pub ended_room : s + length (ended k on at) ≤ length d
    ended_room = front_room_block (ended k on at) others next fits

    pub ended_put : (y : List ℕ) → y ≡ put d s (ended k on at) → {r : ℕ} → r ≡ length (ended k on at) → {a : ℕ} → a ≡ length (added k on p q) → Front d₀ y (s + r) (ends_from rings rule k (at + a) q rest) whole
    unfolding others
    ended_put y w n m = rw (n, m) (front_whole (ended k on at) others y next ended_room w)

-- no piece is left: the run that is on ends with the line
module _ (on : Bool) (at : ℕ) {s : ℕ} {d₀ d whole : List ℕ} (f : Front d₀ d s (ended false on at) whole) (fits : length whole ≤ length d₀) where
  last : Front d₀ d s (ended false on at ++ []) whole
  last = front_at (sym (append-nil (ended false on at))) f

  pub last_room : s + length (ended false on at) ≤ length d
  last_room = front_room_block (ended false on at) [] last fits

  pub last_put : (y : List ℕ) → y ≡ put d s (ended false on at) → Front d₀ y (s + length (ended false on at)) [] whole
  last_put y w = front_whole (ended false on at) [] y last last_room w

-- all is written: the places are the counts
pub all_counted : (ls : List (List P)) {d₀ d : List Float} {e₀ e₁ : List ℕ} (m : List ℕ) (at s r : ℕ) → Front d₀ d (2 * at) [] (flat (sewn_points ls)) → Front e₀ e₁ (s + length m) [] (sewn_ends 0 ls) → r ≡ length m → record { lines = s + r; points = at } ≡ count_of ls
unfolding count_of
all_counted ls m at s r f h e =
    let x : s + r ≡ length ls = omega (arith, front_count h, ends_length 0 ls, e) in
    let y : at ≡ length (sewn_points ls) = omega (arith, front_count f, flat_length (sewn_points ls)) in
    rw (x, y)
