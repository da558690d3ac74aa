-- A closed line is sewn as the open line and then the piece back to its first corner. `closing` is that piece; the rest are theorems.
-- Assumes nothing.
use Rattle.std.specs.Prelude.{suc, ◌+◌, ◌-◌, ◌*◌, ◌/◌, ◌≤◌, ◌<◌, ◌≡◌, refl, Bool, length, get_or, Float}
use Rattle.std.proofs.Common.{arith, ap, ◌∙◌, length-append}
use Rattle.std.proofs.Math.Path.{sym}
use Rattle.std.proofs.Math.Bool.{true, false, cond}
use mathlib.Core.List.{List, [], ◌∷◌, ◌++◌, append_assoc, append-nil}
use Rattle.std.proofs.Math.Dec.{ltb}
use Rattle.std.proofs.Math.ListN.{take}
use borrow.Author.Tests.{ltb-true, lt-ltb, le-ltb}
use Rattle.geom.specs.declared.point.P.{P}
use Rattle.geom.specs.Outline.{points}
use Rattle.geom.specs.OutlineLaws.{corner_at, points_length, points_at}
use Rattle.geom.specs.Sewing.{flat}
use Rattle.polyline.specs.Line.{piece, pieces_from, pieces, resample_keep_corners}
use Rattle.geom.specs.SewingLaws.{flat_append}
use Rattle.stroke.specs.Running.{base, one_pass}
use Rattle.stroke.specs.Closing.{closing}

module _ (l : List Float) (closed : Bool) (len : Float) where
  pub closing_on : closed ≡ true → 2 < length l / 2 → closing l closed len ≡ piece (corner_at l (2 * (length l / 2 - 1))) (corner_at l 0) len
  unfolding closing
  closing_on e h = rw (e, lt-ltb 2 (length l / 2) h)

  pub closing_short : closed ≡ true → length l / 2 ≤ 2 → closing l closed len ≡ []
  unfolding closing
  closing_short e h = rw (e, le-ltb 2 (length l / 2) h)

  pub closing_open : closed ≡ false → closing l closed len ≡ []
  unfolding closing
  closing_open e = rw e

-- the pieces of a line with one corner more
pieces_more : (p : P) (ps : List P) (q : P) (z : P) (len : Float) → pieces_from p (ps ++ (q ∷ [])) len ≡ pieces_from p ps len ++ piece (get_or (p ∷ ps) (length ps) z) q len
unfolding pieces_from
pieces_more p [] q z len = append-nil (piece p q len)
pieces_more p (r ∷ ps) q z len =
    ap (λ (l : List P). piece p r len ++ l) (pieces_more r ps q z len)
    ∙ sym (append_assoc (piece p r len) (pieces_from r ps len) (piece (get_or (r ∷ ps) (length ps) z) q len))

-- the stitches of a line that ends at its first corner
closed_line : (ps : List P) (z : P) (len : Float) → 0 < length ps → resample_keep_corners (ps ++ take 1 ps) len ≡ resample_keep_corners ps len ++ piece (get_or ps (length ps - 1) z) (get_or ps 0 z) len
unfolding resample_keep_corners pieces
closed_line [] z len h = absurd (omega arith)
closed_line (p ∷ ps) z len h =
    let e : suc (length ps) - 1 ≡ length ps = omega arith in
    rw e (ap (λ (l : List P). p ∷ l) (pieces_more p ps p z len))

module _ (l : List Float) (len : Float) where
  closed_points : 2 < length l / 2 → resample_keep_corners (points l ++ take 1 (points l)) len ≡ resample_keep_corners (points l) len ++ piece (corner_at l (2 * (length l / 2 - 1))) (corner_at l 0) len
  closed_points h =
      let z = corner_at l 0 in
      let a = points_at l (length l / 2 - 1) z (omega arith) in
      let b = points_at l 0 z (omega arith) in
      closed_line (points l) z len (omega (arith, points_length l)) ∙ rw (points_length l, a, b)

  pub one_pass_lem : (closed : Bool) → one_pass (points l) closed len ≡ resample_keep_corners (points l) len ++ closing l closed len
  unfolding one_pass base closing
  one_pass_lem false = sym (append-nil (resample_keep_corners (points l) len))
  one_pass_lem true = rw (points_length l) (by (ltb 2 (length l / 2)) refl)
    where
      by : (b : Bool) → ltb 2 (length l / 2) ≡ b → resample_keep_corners (cond b (points l ++ take 1 (points l)) (points l)) len ≡ resample_keep_corners (points l) len ++ cond b (piece (corner_at l (2 * (length l / 2 - 1))) (corner_at l 0) len) []
      by true t = closed_points (ltb-true 2 (length l / 2) t)
      by false t = sym (append-nil (resample_keep_corners (points l) len))

  module _ (closed : Bool) where
    pub one_flat : flat (one_pass (points l) closed len) ≡ flat (resample_keep_corners (points l) len) ++ flat (closing l closed len)
    one_flat = ap flat (one_pass_lem closed) ∙ flat_append (resample_keep_corners (points l) len) (closing l closed len)

    pub one_size : length (flat (one_pass (points l) closed len)) ≡ length (flat (resample_keep_corners (points l) len)) + length (flat (closing l closed len))
    one_size = ap length one_flat ∙ length-append (flat (resample_keep_corners (points l) len)) (flat (closing l closed len))
