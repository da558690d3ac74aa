-- What is proved of points in an output slice: their numbers, the turns of a loop that writes them, and the room for them. Assumes nothing.
use Rattle.std.specs.Prelude.{ℕ, ◌+◌, ◌*◌, ◌/◌, ◌≤◌, ◌<◌, ◌≡◌, refl, List, [], ◌∷◌, ◌++◌, length, Float}
use Rattle.std.proofs.Common.{arith, ap, le-leb}
use Rattle.std.proofs.lemmas.Bool.{lt-leb}
use Rattle.refusal.specs.Refusal.{DONE, ROOM}
use Rattle.seqs.specs.Slices.{put, capped}
use Rattle.seqs.specs.Front.{Front, front_at, front_room_block, front_whole}
use Rattle.seqs.specs.Capped.{capped_exact, capped_past}
use Rattle.geom.specs.declared.point.P.{P}
use Rattle.geom.specs.Outline.{points}
use Rattle.geom.specs.Sewing.{flat, fitted}

pub flat_length : (ps : List P) → length (flat ps) ≡ 2 * length ps
unfolding flat
flat_length [] = refl
flat_length (p ∷ ps) = omega (arith, flat_length ps)

pub flat_append : (ps qs : List P) → flat (ps ++ qs) ≡ flat ps ++ flat qs
unfolding flat
flat_append [] qs = refl
flat_append (p ∷ ps) qs = ap (λ (l : List Float). p.x ∷ p.y ∷ l) (flat_append ps qs)

pub flat_none : {ps : List P} → ps ≡ [] → flat ps ≡ []
unfolding flat
flat_none e = rw e

pub points_flat : (ps : List P) → points (flat ps) ≡ ps
unfolding flat points
points_flat [] = refl
points_flat (p ∷ ps) = ap (λ (l : List P). p ∷ l) (points_flat ps)

-- a slice into which points are written from the front: m is next, and rest comes after it
module _ {d₀ d : List Float} {n : ℕ} (m rest : List P) {whole : List Float} (f : Front d₀ d n (flat (m ++ rest)) whole) (fits : length whole ≤ length d₀) where
  parted : Front d₀ d n (flat m ++ flat rest) whole
  parted = front_at (flat_append m rest) f

  pub points_room : n + 2 * length m ≤ length d
  points_room = omega (arith, front_room_block (flat m) (flat rest) parted fits, flat_length m)

  pub points_put : (y : List Float) → y ≡ put d n (flat m) → Front d₀ y (n + 2 * length m) (flat rest) whole
  points_put y e = let g = front_whole (flat m) (flat rest) y parted (front_room_block (flat m) (flat rest) parted fits) e in rw (flat_length m) at g

-- points that are counted up to the room, and the count compared with it
module _ (ps : List P) (room : ℕ) {c : ℕ} (e : c ≡ capped (room / 2) (length ps)) where
  pub not_fitted : room / 2 < c → fitted ps room ≡ ROOM
  unfolding fitted
  not_fitted h = rw (lt-leb (length (flat ps)) room (omega (arith, flat_length ps, capped_past (room / 2) (length ps) e h)))

  pub counted : c ≤ room / 2 → c ≡ length ps
  counted h = capped_exact (room / 2) (length ps) e h

  pub fits : c ≤ room / 2 → length (flat ps) ≤ room
  fits h = omega (arith, flat_length ps, counted h)

  pub is_fitted : c ≤ room / 2 → fitted ps room ≡ DONE
  unfolding fitted
  is_fitted h = rw (le-leb (length (flat ps)) room (fits h))
