-- What is proved of a path whose sides are sewn: one step and the end, from a flat path's corner i on. Assumes nothing.
use Prim.Native.Nat.{ℕ, zero, suc, ◌+◌, ◌-◌, ◌*◌, ◌≤◌, ◌<◌}
use native.Mathlib.Omega.{arith}
use Rattle.std.specs.Prelude.{◌≡◌, true, false, not, cond, List, [], ◌∷◌, ◌++◌, pos, T, Float}
use Rattle.std.proofs.Math.Path.{refl, ap}
use Rattle.std.proofs.Common.{sym, ◌∙◌, inl, inr, append_assoc, length-append}
use Rattle.std.proofs.Math.ListN.{length}
use Rattle.std.specs.Float.{nan, inf, fin}
use Rattle.std.specs.Float.Ieee.{is_nan, to_unsigned}
use Rattle.numbers.specs.Num.{◌⊘◌, real, literal}
use Rattle.numbers.specs.Order.{larger}
use Rattle.numbers.specs.Whole.{ceil}
use Rattle.numbers.specs.Laws as laws
use Rattle.seqs.specs.Tests.{either}
use Rattle.geom.specs.declared.point.P.{P}
use Rattle.geom.specs.Point.{one, plus, minus, dist, lerp}
use Rattle.geom.specs.Sewing.{flat}
use Rattle.geom.specs.Steps.{steps}
use Rattle.geom.specs.SewingLaws.{flat_length}
use Rattle.satinrules.specs.Column.{sides_from, sides, stagger, parts_of, part_end, parts_from, split_side, bend, bends, s_side, s_stitch}
use Rattle.styles.specs.Sides.{side_to}

module _ (f : ℕ → P → P → List P) (k : ℕ) (p q : P) (ps : List P) where
  pub sides_next : sides_from f k p (q ∷ ps) ≡ side_to f k p q ++ sides_from f (k + 1) q ps
  unfolding sides_from
  sides_next = sym (append_assoc (f k p q) (q ∷ []) (sides_from f (k + 1) q ps))

  pub count_next : length (sides_from f k p (q ∷ ps)) ≡ length (side_to f k p q) + length (sides_from f (k + 1) q ps)
  count_next = ap length sides_next ∙ length-append (side_to f k p q) (sides_from f (k + 1) q ps)

-- the first corner, and then the sides
module _ (f : ℕ → P → P → List P) where
  pub sides_none : {ps : List P} → ps ≡ [] → sides f ps ≡ []
  unfolding sides
  sides_none e = rw e

  pub sides_start : {ps rest : List P} {p : P} → ps ≡ p ∷ rest → sides f ps ≡ p ∷ sides_from f 0 p rest
  unfolding sides
  sides_start e = rw e

  pub count_start : {ps rest : List P} {p : P} → ps ≡ p ∷ rest → length (sides f ps) ≡ 1 + length (sides_from f 0 p rest)
  count_start e = omega (arith, ap length (sides_start e))

  pub sides_over : (k : ℕ) (p : P) {ps : List P} → ps ≡ [] → sides_from f k p ps ≡ []
  unfolding sides_from
  sides_over k p e = rw e

-- ---- the parts of a split side

-- the larger of c and 1, as a count
larger_number : (c : Float) → T (not (is_nan c)) → to_unsigned 64 (larger c one) ≡ 1 + (to_unsigned 64 c - 1)
unfolding is_nan to_unsigned
larger_number c h =
    let top = laws.larger_has (λ (v : Float). to_unsigned 64 v ≤ 1 + (to_unsigned 64 c - 1)) c one (omega arith) (omega arith) in
    omega (arith, top, laws.unsigned_mono 64 c (larger c one) (laws.le_larger_left c one h tt), laws.unsigned_mono 64 one (larger c one) (laws.le_larger_right c one h tt))

larger_one : (c : Float) → to_unsigned 64 (larger c one) ≡ 1 + (to_unsigned 64 c - 1)
unfolding is_nan
larger_one nan = unfold larger to_unsigned in refl
larger_one (inf s) = larger_number (inf s) tt
larger_one (fin s m e) = larger_number (fin s m e) tt

module _ (p q : P) (n : ℕ) (shift : Float) where
  pub parts_length : (j left : ℕ) → length (parts_from p q n shift j left) ≡ left
  unfolding parts_from
  parts_length j zero = refl
  parts_length j (suc left) = ap suc (parts_length (j + 1) left)

  pub parts_size : (j left : ℕ) → length (flat (parts_from p q n shift j left)) ≡ 2 * left
  parts_size j left = flat_length (parts_from p q n shift j left) ∙ ap (λ (k : ℕ). 2 * k) (parts_length j left)

  pub parts_next : (j : ℕ) → j < n → parts_from p q n shift j (n - j) ≡ part_end p q n shift j ∷ parts_from p q n shift (j + 1) (n - (j + 1))
  unfolding parts_from
  parts_next j h = let e : n - j ≡ suc (n - (j + 1)) = omega arith in rw e

  pub parts_none : (j : ℕ) → n ≤ j → parts_from p q n shift j (n - j) ≡ []
  unfolding parts_from
  parts_none j h = let e : n - j ≡ 0 = omega arith in rw e

-- a side that isn't split has one point, and no part is put
module _ (p q : P) (max : Float) where
  pub split_points : steps (dist p q) max ≡ 1 + (parts_of p q max - 1)
  unfolding steps parts_of
  split_points = larger_one (ceil (dist p q ⊘ max))

  pub split_parts : (k n : ℕ) → n ≡ steps (dist p q) max → split_side max k p q ≡ parts_from p q n (stagger k ⊘ real (pos n)) 1 (n - 1)
  unfolding split_side
  split_parts k n e = go (parts_of p q max) (e ∙ split_points)
    where
      go : (m : ℕ) → n ≡ 1 + (m - 1) → parts_from p q m (stagger k ⊘ real (pos m)) 1 (m - 1) ≡ parts_from p q n (stagger k ⊘ real (pos n)) 1 (n - 1)
      go zero h = unfold parts_from in rw h
      go (suc m) h = let g : n ≡ suc m = omega (arith, h) in rw g

  pub one_part : (k n : ℕ) → n ≡ steps (dist p q) max → n ≤ 1 → side_to (split_side max) k p q ≡ q ∷ []
  unfolding parts_from
  one_part k n e h = let g : n ≡ 1 = omega (arith, e, split_points) in rw (split_parts k n e, g)

  -- a side's points, its last among them
  pub split_length : (k : ℕ) → length (side_to (split_side max) k p q) ≡ steps (dist p q) max
  split_length k =
      let n = steps (dist p q) max in
      omega (arith, ap length (split_parts k n refl), length-append (split_side max k p q) (q ∷ []), parts_length p q n (stagger k ⊘ real (pos n)) 1 (n - 1), split_points)

-- ---- a bent side

module _ (p q : P) (k : ℕ) where
  pub bent_side : bends p q ≡ true → side_to s_side k p q ≡ plus (lerp p q (literal 3 10)) (bend k p q) ∷ minus (lerp p q (literal 7 10)) (bend k p q) ∷ q ∷ []
  unfolding s_side
  bent_side e = rw e

  pub straight_side : bends p q ≡ false → side_to s_side k p q ≡ q ∷ []
  unfolding s_side
  straight_side e = rw e

  pub bent_length : length (side_to s_side k p q) ≡ cond (bends p q) 3 1
  bent_length = elim (either (bends p q)) [ inl e ↦ ap length (bent_side e) ∙ rw e | inr e ↦ ap length (straight_side e) ∙ rw e ]

-- a bent side has two points before its last, so three a side and the first corner are the most
s_few : (k : ℕ) (p q : P) → length (s_side k p q) ≤ 2
s_few k p q = elim (either (bends p q)) [ inl e ↦ omega (arith, ap length (bent_side p q k e), length-append (s_side k p q) (q ∷ [])) | inr e ↦ omega (arith, ap length (straight_side p q k e), length-append (s_side k p q) (q ∷ [])) ]

sides_few : (k : ℕ) (p : P) (ps : List P) → length (sides_from s_side k p ps) ≤ 3 * length ps
unfolding sides_from
sides_few k p [] = omega arith
sides_few k p (q ∷ ps) = omega (arith, length-append (s_side k p q) (q ∷ sides_from s_side (k + 1) q ps), s_few k p q, sides_few (k + 1) q ps)

pub bent_most : (ps : List P) → length (s_stitch ps) ≤ 3 * length ps - 2
unfolding s_stitch sides
bent_most [] = omega arith
bent_most (p ∷ ps) = omega (arith, sides_few 0 p ps)
