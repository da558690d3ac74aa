-- The turns of the writing and counting loops. Assumes nothing.
use mathlib.Core.Path.{◌≡◌, ap, ◌∙◌}
use mathlib.Core.List.{List, [], ◌∷◌, ◌++◌, map}
use Prim.Native.Nat.{ℕ, suc, ◌+◌, ◌-◌, ◌*◌, ◌≤◌, ◌<◌}
use native.Mathlib.Omega.{arith}
use lib.IntN.{pos}
use lib.ListN.{length}
use lib.Ieee.{Float}
use Rattle.numbers.specs.Num.{◌⊘◌, real}
use Rattle.seqs.specs.Lists.{upto}
use Rattle.geom.specs.declared.point.P.{P}
use Rattle.geom.specs.Point.{point, rotate, lerp}
use Rattle.geom.specs.Sewing.{flat}
use Rattle.sewing.specs.declared.row.Row.{Row}
use Rattle.sewing.specs.Sewing.{way, gap, cuts, sew_to, back, target, targets}
use Rattle.sewing.specs.SewLaws.{gap_length, sew_next, sew_count, sew_none, sew_least, flat_back, flat_back_length}
use Rattle.sewing.specs.RowLaws.{targets_next, targets_none, targets_length}

-- ---- a gap, of which i points are written

on : P → P → ℕ → ℕ → P
on p q n i = lerp p q (real (pos i) ⊘ real (pos (n + 1)))

pub gap_from : P → P → ℕ → ℕ → List P
gap_from p q n i = map (on p q n) (upto (i + 1) (n - i)) ++ (q ∷ [])

module _ (p q : P) (n : ℕ) where
  pub gap_all : gap p q n ≡ gap_from p q n 0
  unfolding gap_from way on
  gap_all = let e : n - 0 ≡ n = omega arith in let f : 0 + 1 ≡ 1 = omega arith in rw (e, f)

  module _ (c s : Float) where
    pub gap_size : length (flat (back c s (gap p q n))) ≡ 2 * n + 2
    gap_size = flat_back_length c s (gap p q n) ∙ omega (arith, gap_length p q n)

    pub gap_next : (i : ℕ) → i < n → flat (back c s (gap_from p q n i)) ≡ (rotate (lerp p q (real (pos (i + 1)) ⊘ real (pos (n + 1)))) c s).x ∷ (rotate (lerp p q (real (pos (i + 1)) ⊘ real (pos (n + 1)))) c s).y ∷ flat (back c s (gap_from p q n (i + 1)))
    unfolding gap_from on back flat
    gap_next i h = let e : n - i ≡ suc (n - (i + 1)) = omega arith in rw e

    pub gap_last : (i : ℕ) → n ≤ i → flat (back c s (gap_from p q n i)) ≡ (rotate q c s).x ∷ (rotate q c s).y ∷ []
    unfolding gap_from back flat
    gap_last i h = let e : n - i ≡ 0 = omega arith in rw e

-- ---- a row, from target r on

module _ (len : Float) (w : Row) (pen : P) (r m : ℕ) where
  aim : P
  aim = point (target len w r) w.y

  pub row_done : m ≤ r → sew_to len pen (targets len w r (m - r)) ≡ []
  row_done h = ap (sew_to len pen) (targets_none len w r m h) ∙ sew_none len pen

  pub row_count : r < m → length (sew_to len pen (targets len w r (m - r))) ≡ cuts len pen (point (target len w r) w.y) + 1 + length (sew_to len (point (target len w r) w.y) (targets len w (r + 1) (m - (r + 1))))
  unfolding aim
  row_count h = ap (λ l. length (sew_to len pen l)) (targets_next len w r m h) ∙ sew_count len pen aim (targets len w (r + 1) (m - (r + 1)))

  pub row_next : (c s : Float) → r < m → flat (back c s (sew_to len pen (targets len w r (m - r))))
      ≡ flat (back c s (gap pen (point (target len w r) w.y) (cuts len pen (point (target len w r) w.y)))) ++ flat (back c s (sew_to len (point (target len w r) w.y) (targets len w (r + 1) (m - (r + 1)))))
  unfolding aim
  row_next c s h =
      ap (λ l. flat (back c s (sew_to len pen l))) (targets_next len w r m h)
      ∙ ap (λ l. flat (back c s l)) (sew_next len pen aim (targets len w (r + 1) (m - (r + 1))))
      ∙ flat_back c s (gap pen aim (cuts len pen aim)) (sew_to len aim (targets len w (r + 1) (m - (r + 1))))

-- the row fits a slice, so its targets can be counted
pub row_fits : (len : Float) (w : Row) (pen : P) (c s : Float) (k n : ℕ) → k + length (flat (back c s (sew_to len pen (targets len w 0 (w.n + 2))))) ≤ n → 2 * (w.n + 2) ≤ n
row_fits len w pen c s k n h =
    let l = targets len w 0 (w.n + 2) in
    omega (arith, flat_back_length c s (sew_to len pen l), sew_least len pen l, targets_length len w 0 (w.n + 2))
