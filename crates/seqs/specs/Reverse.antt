-- A list read from its end. Assumes nothing.
use Rattle.std.specs.Prelude.{ℕ, suc, ◌-◌, ◌≤◌, ◌<◌, ◌≡◌, refl, Bool, true, false, cond, ltb, length, get_or}
use Rattle.std.proofs.Common.{arith, ap, ◌∙◌, ltb-true, ltb-false}
use mathlib.Core.List.{List, [], ◌∷◌, ◌++◌, reverse, reverse-cons}
use Rattle.std.proofs.lemmas.List.{length-reverse, get_or_at}
use Rattle.std.proofs.Math.ListN.{get_or-append}

module _ {ℓ} {A : Type ℓ} where
  last : (x : A) (l : List A) (i : ℕ) (z : A) → i < suc (length l) → (i < length l → get_or (reverse l) i z ≡ get_or l (length l - 1 - i) z) → get_or (reverse l ++ (x ∷ [])) i z ≡ get_or (x ∷ l) (suc (length l) - 1 - i) z
  last x l i z h e = by (ltb i (length l)) refl
    where
      by : (b : Bool) → ltb i (length l) ≡ b → get_or (reverse l ++ (x ∷ [])) i z ≡ get_or (x ∷ l) (suc (length l) - 1 - i) z
      by true t =
          let lt : i < length l = ltb-true i (length l) t in
          let k : suc (length l) - 1 - i ≡ suc (length l - 1 - i) = omega arith in
          get_or-append (reverse l) (x ∷ []) z i (omega (arith, length-reverse l)) ∙ e lt ∙ rw k
      by false t =
          let le : length l ≤ i = ltb-false i (length l) t in
          let k : suc (length l) - 1 - i ≡ 0 = omega arith in
          get_or_at (reverse l) x [] z i (omega (arith, length-reverse l)) ∙ rw k

  -- place i of the reversed list is place n - 1 - i of n
  pub get_d_reverse : (l : List A) (i : ℕ) (z : A) → i < length l → get_or (reverse l) i z ≡ get_or l (length l - 1 - i) z
  get_d_reverse [] i z h = absurd (omega arith)
  get_d_reverse (x ∷ l) i z h = ap (λ (m : List A). get_or m i z) (reverse-cons x l) ∙ last x l i z h (get_d_reverse l i z)

-- a place of n, from either end
pub place_below : (back : Bool) (r n : ℕ) → r < n → cond back (n - 1 - r) r < n
place_below true r n h = omega arith
place_below false r n h = h
