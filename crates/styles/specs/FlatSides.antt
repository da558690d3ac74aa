-- What is proved of a flat path whose sides are sewn: one step and the end, from its corner i on. Assumes nothing.
use Prim.Native.Nat.{ℕ, ◌+◌, ◌-◌, ◌/◌, ◌≤◌, ◌<◌}
use native.Mathlib.Omega.{arith}
use Rattle.std.specs.Prelude.{◌≡◌, List, [], ◌∷◌, ◌++◌, drop, Float}
use Rattle.std.proofs.Math.Path.{refl, ap}
use Rattle.std.proofs.Common.{sym, ◌∙◌, append_assoc, length-append}
use Rattle.std.proofs.Math.ListN.{length}
use Rattle.seqs.specs.Slices.{put}
use Rattle.seqs.specs.Put.{put_then}
use Rattle.geom.specs.declared.point.P.{P}
use Rattle.geom.specs.Outline.{points}
use Rattle.geom.specs.OutlineLaws.{corner_at, points_next, points_end}
use Rattle.geom.specs.Sewing.{flat}
use Rattle.geom.specs.SewingLaws.{flat_append}
use Rattle.satinrules.specs.Column.{sides_from, sides}
use Rattle.styles.specs.Sides.{side_to, later_sides}

module _ (f : ℕ → P → P → List P) (l : List Float) where
  pub sides_next : (k : ℕ) (p : P) (i : ℕ) → i + 1 < length l → sides_from f k p (points (drop i l)) ≡ side_to f k p (corner_at l i) ++ sides_from f (k + 1) (corner_at l i) (points (drop (i + 2) l))
  unfolding sides_from
  sides_next k p i h =
      let q = corner_at l i in
      rw (points_next l i h) (sym (append_assoc (f k p q) (q ∷ []) (sides_from f (k + 1) q (points (drop (i + 2) l)))))

  pub sides_end : (k : ℕ) (p : P) (i : ℕ) → length l ≤ i + 1 → sides_from f k p (points (drop i l)) ≡ []
  unfolding sides_from
  sides_end k p i h = rw (points_end l i h)

  pub sides_none : length l < 2 → sides f (points l) ≡ []
  unfolding sides
  sides_none h = rw (points_end l 0 (omega arith))

  pub sides_start : 1 < length l → sides f (points l) ≡ corner_at l 0 ∷ later_sides f l
  unfolding sides
  sides_start h = rw (points_next l 0 h)

  pub count_next : (k : ℕ) (p : P) (i : ℕ) → i + 1 < length l → length (sides_from f k p (points (drop i l))) ≡ length (side_to f k p (corner_at l i)) + length (sides_from f (k + 1) (corner_at l i) (points (drop (i + 2) l)))
  count_next k p i h = ap length (sides_next k p i h) ∙ length-append (side_to f k p (corner_at l i)) (sides_from f (k + 1) (corner_at l i) (points (drop (i + 2) l)))

  -- the same where k is told by i
  pub count_turn : (p : P) (i : ℕ) → 2 ≤ i → i + 1 < length l → length (sides_from f (i / 2 - 1) p (points (drop i l))) ≡ length (side_to f (i / 2 - 1) p (corner_at l i)) + length (sides_from f ((i + 2) / 2 - 1) (corner_at l i) (points (drop (i + 2) l)))
  count_turn p i two h = let e : i / 2 - 1 + 1 ≡ (i + 2) / 2 - 1 = omega arith in rw e at (count_next (i / 2 - 1) p i h)

  pub count_start : 1 < length l → length (sides f (points l)) ≡ 1 + length (later_sides f l)
  count_start h = omega (arith, ap length (sides_start h))

  -- the first corner, and then the sides
  module _ (h : 1 < length l) where
    path_flat : flat (sides f (points l)) ≡ flat (corner_at l 0 ∷ []) ++ flat (later_sides f l)
    path_flat = ap flat (sides_start h) ∙ flat_append (corner_at l 0 ∷ []) (later_sides f l)

    pub path_size : length (flat (sides f (points l))) ≡ 2 + length (flat (later_sides f l))
    unfolding flat
    path_size = omega (arith, ap length path_flat)

    pub path_put : (d d₁ y : List Float) (k : ℕ) → k + length (flat (sides f (points l))) ≤ length d → d₁ ≡ put d k (flat (corner_at l 0 ∷ [])) → y ≡ put d₁ (k + 2) (flat (later_sides f l)) → y ≡ put d k (flat (sides f (points l)))
    unfolding flat
    path_put d d₁ y k fits e g = put_then d d₁ y (flat (corner_at l 0 ∷ [])) (flat (later_sides f l)) k (k + 2) (omega (arith, path_size)) e refl g ∙ rw path_flat
