-- A turn of each loop that writes along a path. Assumes nothing.
use Prim.Native.Nat.{ℕ, ◌+◌, ◌-◌, ◌*◌, ◌≤◌, ◌<◌}
use native.Mathlib.Omega.{arith}
use mathlib.Core.Path.{◌≡◌, refl, ap, ◌∙◌}
use mathlib.Core.List.{List, [], ◌∷◌, ◌++◌}
use lib.ListN.{length, take}
use lib.Ieee.{Float}
use Rattle.seqs.specs.Front.{Front, front_from, front_at}
use Rattle.seqs.specs.Slices.{put}
use Rattle.seqs.specs.Put.{put_length}
use Rattle.seqs.specs.Wrote.{put_room}
use Rattle.geom.specs.declared.point.P.{P}
use Rattle.geom.specs.Sewing.{flat}
use Rattle.geom.specs.SewingLaws.{points_room, points_put}
use Rattle.satinrules.specs.Column.{sides_from, sides, part_end, parts_from}
use Rattle.satinrules.specs.Flat.{flat_then}
use Rattle.styles.specs.Sides.{side_to}
use Rattle.styles.specs.SidesLaws.{sides_start, sides_next, parts_size, parts_next}

-- the end of part j of n is next
module _ {d₀ d : List Float} {to : ℕ} (k : ℕ) (p q : P) (n : ℕ) (shift : Float) (j : ℕ)
    (f : Front d₀ d to (flat (parts_from p q n shift j (n - j))) (take k d₀ ++ flat (parts_from p q n shift 1 (n - 1))))
    (fits : k + 2 * (n - 1) ≤ length d₀) (more : j < n) where
  part_up : Front d₀ d to (flat (part_end p q n shift j ∷ parts_from p q n shift (j + 1) (n - (j + 1)))) (take k d₀ ++ flat (parts_from p q n shift 1 (n - 1)))
  part_up = front_at (ap flat (parts_next p q n shift j more)) f

  room : length (take k d₀ ++ flat (parts_from p q n shift 1 (n - 1))) ≤ length d₀
  room = put_room d₀ (flat (parts_from p q n shift 1 (n - 1))) k (omega (arith, parts_size p q n shift 1 (n - 1)))

  pub part_room : to + 2 ≤ length d
  part_room = omega (arith, points_room (part_end p q n shift j ∷ []) (parts_from p q n shift (j + 1) (n - (j + 1))) part_up room)

  pub part_put : (y : List Float) → y ≡ put d to (flat (part_end p q n shift j ∷ [])) → Front d₀ y (to + 2) (flat (parts_from p q n shift (j + 1) (n - (j + 1)))) (take k d₀ ++ flat (parts_from p q n shift 1 (n - 1)))
  part_put y e = points_put (part_end p q n shift j ∷ []) (parts_from p q n shift (j + 1) (n - (j + 1))) part_up room y e

-- the first corner of ps is put
module _ (h : ℕ → P → P → List P) (d : List Float) (k : ℕ) {ps rest : List P} {p : P} (fits : k + length (flat (sides h ps)) ≤ length d) (e : ps ≡ p ∷ rest) where
  first_up : Front d d k (flat ((p ∷ []) ++ sides_from h 0 p rest)) (take k d ++ flat (sides h ps))
  first_up = front_at (ap flat (sides_start h e)) (front_from d (flat (sides h ps)) k (omega (arith, fits)))

  pub first_room : k + 2 ≤ length d
  first_room = omega (arith, points_room (p ∷ []) (sides_from h 0 p rest) first_up (put_room d (flat (sides h ps)) k fits))

  pub first_put : (y : List Float) → y ≡ put d k (flat (p ∷ [])) → Front d y (k + 2) (flat (sides_from h 0 p rest)) (take k d ++ flat (sides h ps))
  first_put y g = points_put (p ∷ []) (sides_from h 0 p rest) first_up (put_room d (flat (sides h ps)) k fits) y g

-- side s from p to q is next
module _ (h : ℕ → P → P → List P) {d₀ d whole : List Float} {to : ℕ} (s : ℕ) (p q : P) (ps : List P)
    (f : Front d₀ d to (flat (sides_from h s p (q ∷ ps))) whole) (fits : length whole ≤ length d₀) where
  side_up : Front d₀ d to (flat (side_to h s p q ++ sides_from h (s + 1) q ps)) whole
  side_up = front_at (ap flat (sides_next h s p q ps)) f

  pub side_room : to + 2 * length (side_to h s p q) ≤ length d
  side_room = points_room (side_to h s p q) (sides_from h (s + 1) q ps) side_up fits

  pub side_put : (y : List Float) → y ≡ put d to (flat (side_to h s p q)) → Front d₀ y (to + 2 * length (side_to h s p q)) (flat (sides_from h (s + 1) q ps)) whole
  side_put y e = points_put (side_to h s p q) (sides_from h (s + 1) q ps) side_up fits y e

-- a point that is put leaves the slice as long as it was
pub point_size : (d d₁ : List Float) (a : P) (to : ℕ) → d₁ ≡ put d to (flat (a ∷ [])) → to + 2 ≤ length d → length d₁ ≡ length d
unfolding flat
point_size d d₁ a to e h = ap length e ∙ put_length d (a.x ∷ a.y ∷ []) to h

-- three points, one after the other
pub three_put : (d d₁ d₂ y : List Float) (a b q : P) (to : ℕ) → to + 6 ≤ length d → d₁ ≡ put d to (flat (a ∷ [])) → d₂ ≡ put d₁ (to + 2) (flat (b ∷ [])) → y ≡ put d₂ (to + 4) (flat (q ∷ [])) → y ≡ put d to (flat (a ∷ b ∷ q ∷ []))
three_put d d₁ d₂ y a b q to h e f g =
    let two : d₂ ≡ put d to (flat (a ∷ b ∷ [])) = flat_then d d₁ (a ∷ []) (b ∷ []) to (omega arith) e d₂ (to + 2) refl f in
    flat_then d d₂ (a ∷ b ∷ []) (q ∷ []) to h two y (to + 4) refl g
