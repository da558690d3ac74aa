-- The stitches of a line go through its corners, bit for bit. `kept_corners` and `Through` say what is claimed; the rest are theorems.
-- Assumes nothing.
use Rattle.std.specs.Prelude.{◌-◌, ◌<◌, ◌≡◌, refl, Bool, true, false, cond, List, [], ◌∷◌, ◌++◌, T, Float}
use Rattle.std.proofs.Common.{arith, ap, ◌∙◌, append_assoc}
use Rattle.std.specs.Float.{nan, inf, fin}
use Rattle.std.specs.Float.Ieee.{lt, le, is_nan, to_unsigned}
use Rattle.numbers.specs.Laws as laws
use Rattle.numbers.specs.Order.{larger}
use Rattle.numbers.specs.Whole.{ceil}
use Rattle.numbers.specs.Num.{◌⊘◌}
use Rattle.geom.specs.declared.point.P.{P}
use Rattle.geom.specs.Point.{one, dist}
use Rattle.geom.specs.Steps.{steps}
use Rattle.polyline.specs.Line.{shortest, piece_steps, steps_from, step_ends, piece, pieces_from, pieces, resample_keep_corners}
use Rattle.polyline.proofs.LineLaws.{ends_last}

-- the corners after p that end a piece that isn't skipped
unfoldable pub kept_from : P → List P → List P
kept_from p [] = []
kept_from p (q ∷ ps) = cond (lt (dist p q) shortest) (kept_from q ps) (q ∷ kept_from q ps)

-- the first corner, and each that ends a piece that isn't skipped
unfoldable pub kept_corners : List P → List P
kept_corners [] = []
kept_corners (p ∷ ps) = p ∷ kept_from p ps

-- xs goes through each of ks in turn, and ends at the last of them
abbrev pub Through : List P → List P → Type 0
Through [] xs = xs ≡ []
Through (k ∷ ks) xs = (on : List P) × (rest : List P) × (xs ≡ on ++ (k ∷ rest)) × Through ks rest

-- ---- one piece

one_or_more : (c : Float) → T (le one (larger c one))
unfolding larger is_nan
one_or_more nan = laws.le_refl one tt
one_or_more (inf s) = laws.le_larger_right (inf s) one tt tt
one_or_more (fin s m e) = laws.le_larger_right (fin s m e) one tt tt

one_step : to_unsigned 64 one ≡ 1
unfolding to_unsigned
one_step = refl

some_steps : (d len : Float) → 0 < steps d len
unfolding steps
some_steps d len = omega (arith, one_step, laws.unsigned_mono 64 one (larger (ceil (d ⊘ len)) one) (one_or_more (ceil (d ⊘ len))))

module _ (a b : P) (len : Float) where
  pub piece_none : lt (dist a b) shortest ≡ true → piece a b len ≡ []
  unfolding piece piece_steps step_ends
  piece_none e = rw e

  not_none : lt (dist a b) shortest ≡ false → 0 < piece_steps a b len
  unfolding piece_steps
  not_none e = rw e (some_steps (dist a b) len)

  -- a piece that isn't skipped ends at its corner
  pub piece_last : lt (dist a b) shortest ≡ false → (on : List P) × (piece a b len ≡ on ++ (b ∷ []))
  unfolding piece
  piece_last e = (steps_from a b (piece_steps a b len) 1 (piece_steps a b len - 1), ends_last a b (piece_steps a b len) (not_none e))

-- ---- the line

module _ (p q : P) (ps : List P) (len : Float) (t : Through (kept_from q ps) (pieces_from q ps len)) where
  piece_through : (b : Bool) → lt (dist p q) shortest ≡ b → Through (cond b (kept_from q ps) (q ∷ kept_from q ps)) (piece p q len ++ pieces_from q ps len)
  piece_through true e = rw (piece_none p q len e) t
  piece_through false e =
      let l = piece_last p q len e in
      (l.0, pieces_from q ps len, ap (λ (x : List P). x ++ pieces_from q ps len) l.1 ∙ append_assoc l.0 (q ∷ []) (pieces_from q ps len), t)

pub pieces_through : (p : P) (ps : List P) (len : Float) → Through (kept_from p ps) (pieces_from p ps len)
unfolding kept_from pieces_from
pieces_through p [] len = refl
pieces_through p (q ∷ ps) len = piece_through p q ps len (pieces_through q ps len) (lt (dist p q) shortest) refl

-- the stitches of a line go through all the corners that are kept
pub corners_kept : (ps : List P) (len : Float) → Through (kept_corners ps) (resample_keep_corners ps len)
unfolding kept_corners resample_keep_corners pieces
corners_kept [] len = refl
corners_kept (p ∷ ps) len = ([], pieces_from p ps len, refl, pieces_through p ps len)
