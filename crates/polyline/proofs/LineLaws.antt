-- What is proved of lines: one step and the end of each definition, from a flat line's corner i on. Assumes nothing.
use Prim.Native.Nat.{ℕ, zero, suc, ◌+◌, ◌-◌, ◌*◌, ◌≤◌, ◌<◌}
use native.Mathlib.Omega.{arith}
use Rattle.std.specs.Prelude.{◌≡◌, List, [], ◌∷◌, ◌++◌, drop, Float}
use Rattle.std.proofs.Math.Path.{refl, ap}
use Rattle.std.proofs.Common.{◌∙◌}
use Rattle.std.proofs.Math.ListN.{length, length-append}
use Rattle.std.specs.Float.{binary64}
use Rattle.std.specs.Float.Ieee.{of_bits, round}
use Rattle.numbers.specs.Num.{◌⊕◌, literal, zero64}
use Rattle.seqs.specs.Slices.{put}
use Rattle.seqs.specs.Put.{put_then}
use Rattle.geom.specs.declared.point.P.{P}
use Rattle.geom.specs.Point.{dist}
use Rattle.geom.specs.Steps.{along}
use Rattle.geom.specs.Outline.{points}
use Rattle.geom.specs.OutlineLaws.{corner_at, points_next, points_end}
use Rattle.geom.specs.Sewing.{flat}
use Rattle.geom.specs.SewingLaws.{flat_length, flat_append}
use Rattle.polyline.specs.Line.{shortest, length_from, polyline_length, piece_steps, steps_from, step_ends, piece, pieces_from, pieces, resample_keep_corners}

points_start : (l : List Float) → 1 < length l → points l ≡ corner_at l 0 ∷ points (drop 2 l)
points_start l h = points_next l 0 h

points_empty : (l : List Float) → length l < 2 → points l ≡ []
points_empty l h = points_end l 0 (omega arith)

module _ (l : List Float) where
  pub length_none : length l < 2 → polyline_length (points l) ≡ zero64
  unfolding polyline_length
  length_none h = rw (points_empty l h)

  pub length_start : 1 < length l → polyline_length (points l) ≡ length_from zero64 (corner_at l 0) (points (drop 2 l))
  unfolding polyline_length
  length_start h = rw (points_start l h)

  pub length_next : (sum : Float) (p : P) (i : ℕ) → i + 1 < length l → length_from sum p (points (drop i l)) ≡ length_from (sum ⊕ dist p (corner_at l i)) (corner_at l i) (points (drop (i + 2) l))
  unfolding length_from
  length_next sum p i h = rw (points_next l i h)

  pub length_end : (sum : Float) (p : P) (i : ℕ) → length l ≤ i + 1 → length_from sum p (points (drop i l)) ≡ sum
  unfolding length_from
  length_end sum p i h = rw (points_end l i h)

-- the pattern that the code's 1e-9 is read as
pub shortest_bits : shortest ≡ of_bits binary64 0x3e112e0be826d695
unfolding shortest literal round of_bits
shortest_bits = refl

module _ (a b : P) where
  steps_length : (n i left : ℕ) → length (steps_from a b n i left) ≡ left
  unfolding steps_from
  steps_length n i zero = refl
  steps_length n i (suc left) = ap suc (steps_length n (i + 1) left)

  pub steps_size : (n i left : ℕ) → length (flat (steps_from a b n i left)) ≡ 2 * left
  steps_size n i left = flat_length (steps_from a b n i left) ∙ ap (λ (k : ℕ). 2 * k) (steps_length n i left)

  pub steps_next : (n i : ℕ) → i < n → steps_from a b n i (n - i) ≡ along a b n i ∷ steps_from a b n (i + 1) (n - (i + 1))
  unfolding steps_from
  steps_next n i h = let e : n - i ≡ suc (n - (i + 1)) = omega arith in rw e

  pub steps_none : (n i : ℕ) → n ≤ i → steps_from a b n i (n - i) ≡ []
  unfolding steps_from
  steps_none n i h = let e : n - i ≡ 0 = omega arith in rw e

  -- the steps before the last, and the corner
  pub ends_last : (n : ℕ) → 0 < n → step_ends a b n ≡ steps_from a b n 1 (n - 1) ++ (b ∷ [])
  unfolding step_ends
  ends_last zero h = absurd (omega arith)
  ends_last (suc n) h = let e : suc n - 1 ≡ n = omega arith in rw e

  pub ends_length : (n : ℕ) → length (step_ends a b n) ≡ n
  unfolding step_ends
  ends_length zero = refl
  ends_length (suc n) = omega (arith, length-append (steps_from a b (suc n) 1 n) (b ∷ []), steps_length (suc n) 1 n)

pub piece_length : (a b : P) (len : Float) → length (piece a b len) ≡ piece_steps a b len
unfolding piece
piece_length a b len = ends_length a b (piece_steps a b len)

module _ (l : List Float) (len : Float) where
  pub pieces_start : 1 < length l → pieces (points l) len ≡ pieces_from (corner_at l 0) (points (drop 2 l)) len
  unfolding pieces
  pieces_start h = rw (points_start l h)

  pub pieces_next : (p : P) (i : ℕ) → i + 1 < length l → pieces_from p (points (drop i l)) len ≡ piece p (corner_at l i) len ++ pieces_from (corner_at l i) (points (drop (i + 2) l)) len
  unfolding pieces_from
  pieces_next p i h = rw (points_next l i h)

  pub pieces_end : (p : P) (i : ℕ) → length l ≤ i + 1 → pieces_from p (points (drop i l)) len ≡ []
  unfolding pieces_from
  pieces_end p i h = rw (points_end l i h)

  pub resample_none : length l < 2 → resample_keep_corners (points l) len ≡ []
  unfolding resample_keep_corners pieces
  resample_none h = rw (points_empty l h)

  pub count_next : (p : P) (i : ℕ) → i + 1 < length l → length (pieces_from p (points (drop i l)) len) ≡ piece_steps p (corner_at l i) len + length (pieces_from (corner_at l i) (points (drop (i + 2) l)) len)
  count_next p i h =
      let q = corner_at l i in
      let rest = pieces_from q (points (drop (i + 2) l)) len in
      ap length (pieces_next p i h) ∙ length-append (piece p q len) rest ∙ ap (λ (k : ℕ). k + length rest) (piece_length p q len)

  -- the first corner, and then the pieces
  module _ (h : 1 < length l) where
    pub resample_start : resample_keep_corners (points l) len ≡ corner_at l 0 ∷ pieces (points l) len
    unfolding resample_keep_corners
    resample_start = rw (points_start l h)

    pub count_start : length (resample_keep_corners (points l) len) ≡ 1 + length (pieces_from (corner_at l 0) (points (drop 2 l)) len)
    count_start = omega (arith, ap length resample_start, ap length (pieces_start h))

    line_flat : flat (resample_keep_corners (points l) len) ≡ flat (corner_at l 0 ∷ []) ++ flat (pieces (points l) len)
    line_flat = ap flat resample_start ∙ flat_append (corner_at l 0 ∷ []) (pieces (points l) len)

    pub line_size : length (flat (resample_keep_corners (points l) len)) ≡ 2 + length (flat (pieces (points l) len))
    unfolding flat
    line_size = omega (arith, ap length line_flat)

    pub line_put : (d d₁ y : List Float) (k : ℕ) → k + length (flat (resample_keep_corners (points l) len)) ≤ length d → d₁ ≡ put d k (flat (corner_at l 0 ∷ [])) → y ≡ put d₁ (k + 2) (flat (pieces (points l) len))
        → y ≡ put d k (flat (resample_keep_corners (points l) len))
    unfolding flat
    line_put d d₁ y k fits e g = put_then d d₁ y (flat (corner_at l 0 ∷ [])) (flat (pieces (points l) len)) k (k + 2) (omega (arith, line_size)) e refl g ∙ rw line_flat
