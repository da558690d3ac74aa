-- A turn of each loop that writes along a line. Assumes nothing.
use Prim.Native.Nat.{ℕ, zero, suc, ◌+◌, ◌-◌, ◌*◌, ◌≤◌, ◌<◌}
use native.Mathlib.Omega.{arith}
use mathlib.Core.Path.{◌≡◌, refl, ap, ◌∙◌}
use mathlib.Core.List.{List, [], ◌∷◌, ◌++◌, append_assoc}
use lib.IntN.{pos}
use lib.ListN.{length, take, drop, length-append}
use lib.Seq.{length-take-le, take_at, drop_at}
use lib.Ieee.{Float, binary64, of_bits, div, of_int, round}
use Rattle.numbers.specs.Num.{◌⊘◌, real}
use Rattle.seqs.specs.Front.{Front, front_at}
use Rattle.seqs.specs.Slices.{put}
use Rattle.seqs.specs.Put.{put_then}
use Rattle.seqs.specs.Wrote.{put_room}
use Rattle.geom.specs.declared.point.P.{P}
use Rattle.geom.specs.Point.{lerp}
use Rattle.geom.specs.Steps.{along}
use Rattle.geom.specs.Sewing.{flat}
use Rattle.geom.specs.SewingLaws.{flat_append, points_room, points_put}
use Rattle.polyline.specs.Line.{piece_steps, steps_from, step_ends, piece, pieces_from, pieces, resample_keep_corners}
use Rattle.polyline.proofs.LineLaws.{steps_size, steps_next, ends_last, piece_length}

-- the end of step i of n, not the last, is next
module _ {d₀ d : List Float} {at : ℕ} (k : ℕ) (a b : P) (n i : ℕ)
    (f : Front d₀ d at (flat (steps_from a b n i (n - i))) (take k d₀ ++ flat (steps_from a b n 1 (n - 1))))
    (fits : k + 2 * n ≤ length d₀) (more : i < n) where
  end_up : Front d₀ d at (flat (along a b n i ∷ steps_from a b n (i + 1) (n - (i + 1)))) (take k d₀ ++ flat (steps_from a b n 1 (n - 1)))
  end_up = front_at (ap flat (steps_next a b n i more)) f

  room : length (take k d₀ ++ flat (steps_from a b n 1 (n - 1))) ≤ length d₀
  room = put_room d₀ (flat (steps_from a b n 1 (n - 1))) k (omega (arith, steps_size a b n 1 (n - 1)))

  pub step_room : at + 2 ≤ length d
  step_room = omega (arith, points_room (along a b n i ∷ []) (steps_from a b n (i + 1) (n - (i + 1))) end_up room)

  pub step_put : (y : List Float) → y ≡ put d at (flat (along a b n i ∷ [])) → Front d₀ y (at + 2) (flat (steps_from a b n (i + 1) (n - (i + 1)))) (take k d₀ ++ flat (steps_from a b n 1 (n - 1)))
  step_put y e = points_put (along a b n i ∷ []) (steps_from a b n (i + 1) (n - (i + 1))) end_up room y e

-- the corner after the steps before it
module _ (a b : P) (n : ℕ) (more : 0 < n) where
  ends_flat : flat (step_ends a b n) ≡ flat (steps_from a b n 1 (n - 1)) ++ flat (b ∷ [])
  ends_flat = ap flat (ends_last a b n more) ∙ flat_append (steps_from a b n 1 (n - 1)) (b ∷ [])

  pub last_put : (d d₁ y : List Float) (k at : ℕ) → k + 2 * n ≤ length d → d₁ ≡ put d k (flat (steps_from a b n 1 (n - 1))) → at ≡ k + 2 * (n - 1) → y ≡ put d₁ at (flat (b ∷ [])) → y ≡ put d k (flat (step_ends a b n))
  last_put d d₁ y k at fits e g w =
      let s = steps_size a b n 1 (n - 1) in
      put_then d d₁ y (flat (steps_from a b n 1 (n - 1))) (flat (b ∷ [])) k at (omega (arith, s)) e (omega (arith, s, g)) w ∙ rw ends_flat

-- ---- a line by its first corner and those after it

module _ {ps : List P} (len : Float) where
  pub line_none : ps ≡ [] → resample_keep_corners ps len ≡ []
  unfolding resample_keep_corners pieces
  line_none e = rw e

  module _ {p : P} {rest : List P} (e : ps ≡ p ∷ rest) where
    pub line_of : resample_keep_corners ps len ≡ p ∷ pieces_from p rest len
    unfolding resample_keep_corners pieces
    line_of = rw e

    pub line_count : length (resample_keep_corners ps len) ≡ 1 + length (pieces_from p rest len)
    line_count = omega (arith, ap length line_of)

    line_flat : flat (resample_keep_corners ps len) ≡ flat (p ∷ []) ++ flat (pieces_from p rest len)
    line_flat = ap flat line_of ∙ flat_append (p ∷ []) (pieces_from p rest len)

    pub line_length : length (flat (resample_keep_corners ps len)) ≡ 2 + length (flat (pieces_from p rest len))
    unfolding flat
    line_length = omega (arith, ap length line_flat)

    pub put_line_of : (d d₁ y : List Float) (k : ℕ) → k + length (flat (resample_keep_corners ps len)) ≤ length d → d₁ ≡ put d k (flat (p ∷ []))
        → y ≡ put d₁ (k + 2) (flat (pieces_from p rest len)) → y ≡ put d k (flat (resample_keep_corners ps len))
    unfolding flat
    put_line_of d d₁ y k fits f w = put_then d d₁ y (flat (p ∷ [])) (flat (pieces_from p rest len)) k (k + 2) (omega (arith, fits, line_length)) f refl w ∙ rw line_flat

pub pieces_none : (p : P) (len : Float) → length (pieces_from p [] len) ≡ 0
unfolding pieces_from
pieces_none p len = refl

pub piece_count : (p q : P) (rest : List P) (len : Float) → length (pieces_from p (q ∷ rest) len) ≡ piece_steps p q len + length (pieces_from q rest len)
unfolding pieces_from
piece_count p q rest len = length-append (piece p q len) (pieces_from q rest len) ∙ ap (λ (k : ℕ). k + length (pieces_from q rest len)) (piece_length p q len)

-- the piece from p to q is next
module _ {d₀ d : List Float} {at : ℕ} (k : ℕ) (from : P) (corners : List P) (len : Float) (p q : P) (rest : List P)
    (f : Front d₀ d at (flat (pieces_from p (q ∷ rest) len)) (take k d₀ ++ flat (pieces_from from corners len)))
    (fits : k + length (flat (pieces_from from corners len)) ≤ length d₀) where
  whole : length (take k d₀ ++ flat (pieces_from from corners len)) ≤ length d₀
  whole = put_room d₀ (flat (pieces_from from corners len)) k fits

  pub piece_room : at + 2 * piece_steps p q len ≤ length d
  unfolding pieces_from
  piece_room = rw (piece_length p q len) at (points_room (piece p q len) (pieces_from q rest len) f whole)

  pub piece_put : (y : List Float) → y ≡ put d at (flat (step_ends p q (piece_steps p q len)))
      → Front d₀ y (at + 2 * piece_steps p q len) (flat (pieces_from q rest len)) (take k d₀ ++ flat (pieces_from from corners len))
  unfolding pieces_from piece
  piece_put y e = rw (piece_length p q len) at (points_put (piece p q len) (pieces_from q rest len) f whole y e)

-- a block over another of its size
put_over : (d x y : List Float) (k : ℕ) → k + length x ≤ length d → length y ≡ length x → put (put d k x) k y ≡ put d k y
put_over d x y k h e =
    let p = take k d ++ x in
    let q = length-take-le k d (omega arith) in
    let t : take k (put d k x) ≡ take k d = ap (take k) (append_assoc (take k d) x (drop (length p) d)) ∙ take_at (take k d) (x ++ drop (length p) d) k q in
    let s : length (take k d ++ y) ≡ length p = omega (arith, e, length-append (take k d) y, length-append (take k d) x) in
    rw (t, s, drop_at p (drop (length p) d) (length p) refl)

-- one step, or two, by the half-way point, and the corner over it or after it
half_way : real (pos 1) ⊘ real (pos 2) ≡ of_bits binary64 0x3fe0000000000000
unfolding div of_int round of_bits
half_way = refl

one_end : (a b : P) → step_ends a b 1 ≡ b ∷ []
unfolding step_ends steps_from
one_end a b = refl

two_ends : (a b : P) → step_ends a b 2 ≡ lerp a b (of_bits binary64 0x3fe0000000000000) ∷ b ∷ []
unfolding step_ends steps_from along
two_ends a b = rw half_way

pub short_put : (d d₁ y : List Float) (a b : P) (n k last : ℕ) → 0 < n → n ≤ 2 → k + 2 * n ≤ length d
    → d₁ ≡ put d k (flat (lerp a b (of_bits binary64 0x3fe0000000000000) ∷ [])) → last ≡ k + 2 * (n - 1) → y ≡ put d₁ last (flat (b ∷ [])) → y ≡ put d k (flat (step_ends a b n))
unfolding flat
short_put d d₁ y a b zero k last h m r f g w = absurd (omega (arith, h))
short_put d d₁ y a b (suc zero) k last h m r f g w =
    let z : last ≡ k = omega (arith, g) in
    (rw (f, z) at w) ∙ put_over d (flat (lerp a b (of_bits binary64 0x3fe0000000000000) ∷ [])) (flat (b ∷ [])) k r refl ∙ rw (one_end a b)
short_put d d₁ y a b (suc (suc zero)) k last h m r f g w =
    put_then d d₁ y (flat (lerp a b (of_bits binary64 0x3fe0000000000000) ∷ [])) (flat (b ∷ [])) k last (omega arith) f g w ∙ rw (two_ends a b)
short_put d d₁ y a b (suc (suc (suc n))) k last h m r f g w = absurd (omega (arith, m))
